use Rattle.std.proofs.Common.{rules, sym, ◌∙◌}
use Rattle.images.proofs.ImageLineFacts.{cuts_last, cuts_no_number, cuts_no_space}
use Rattle.images.proofs.image_line.cut_last.Goals as goal

pub returns-in_default : goal.returns-in_default
returns-in_default c = cuts_no_space c.args.words.now c.in_default.ensures

pub returns-in_default-read_number : goal.returns-in_default-read_number
returns-in_default-read_number c = cuts_no_number c.args.words.now c.in-Some.front.now c.in-Some.number.now (record { is = c.in-Some.ensures.0; first = c.in-Some.ensures.1 }) (sym c.read_number.ensures ∙ c.in_default-read_number.is)

pub returns : goal.returns
returns c = cuts_last c.args.words.now c.in-Some.front.now c.in-Some.number.now c.in-Some-read_number.at (record { is = c.in-Some.ensures.0; first = c.in-Some.ensures.1 }) (sym c.read_number.ensures ∙ c.in-Some-read_number.is) (search rules)
