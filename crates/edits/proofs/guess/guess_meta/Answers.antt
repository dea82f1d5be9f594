use Rattle.std.proofs.Common.{sym, ◌∙◌, rules}
use Rattle.edits.proofs.GuessFacts.{a_moment, no_moment}
use Rattle.edits.proofs.guess.guess_meta.Goals as goal

pub returns-in_default-read_number : goal.returns-in_default-read_number
returns-in_default-read_number c = no_moment c.args.kind c.args.words.now c.in-68.is (sym c.read_number.ensures ∙ c.in_default-read_number.is)

pub returns-in-Some : goal.returns-in-Some
returns-in-Some c = a_moment c.args.kind c.args.words.now c.in-Some.modified c.in-68.is (sym c.read_number.ensures ∙ c.in-Some.is) (search rules)
