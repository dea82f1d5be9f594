use Rattle.std.proofs.Common.{sym, ◌∙◌, rules}
use Rattle.edits.proofs.GuessFacts.{a_file, no_mtime}
use Rattle.edits.proofs.guess.guess_file.Goals as goal

pub returns-in_default-read_number : goal.returns-in_default-read_number
returns-in_default-read_number c = no_mtime c.args.words.now c.in-Some.rest.now c.in-Some.len c.in-Some.ensures (sym c.read_number.ensures ∙ c.in_default-read_number.is)

pub returns : goal.returns
returns c = a_file c.args.words.now c.in-Some.rest.now c.in-Some.len c.in-Some-read_number.modified c.in-Some.ensures (sym c.read_number.ensures ∙ c.in-Some-read_number.is) (search rules) (search rules)
