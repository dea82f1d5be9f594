use Rattle.std.proofs.Common.{sym, ◌∙◌}
use Rattle.edits.proofs.GuessFacts.{a_number, no_number, no_space}
use Rattle.edits.proofs.guess.cut_number.Goals as goal

pub returns-in_default : goal.returns-in_default
returns-in_default c = no_space c.args.words.now c.in_default.ensures

pub returns-in_default-read_number : goal.returns-in_default-read_number
returns-in_default-read_number c = no_number c.args.words.now c.in-Some.word.now c.in-Some.rest.now (record { is = c.in-Some.ensures.0; first = c.in-Some.ensures.1 }) (sym c.read_number.ensures ∙ c.in_default-read_number.is)

pub returns : goal.returns
returns c = a_number c.args.words.now c.in-Some.word.now c.in-Some.rest.now c.in-Some-read_number.number (record { is = c.in-Some.ensures.0; first = c.in-Some.ensures.1 }) (sym c.read_number.ensures ∙ c.in-Some-read_number.is)
