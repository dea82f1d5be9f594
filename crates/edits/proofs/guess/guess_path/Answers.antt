use Rattle.std.proofs.Common.{Some, ap, rules}
use Rattle.edits.proofs.WordFacts.{path_guessed, path_not_refused}
use Rattle.edits.proofs.guess.guess_path.Goals as goal

pub returns-in-Ok-clause-complete : goal.returns-in-Ok-clause-complete
returns-in-Ok-clause-complete c = λ p is e. ap Some (path_guessed c.args.word.now p c.in-Ok.path c.read_path.result c.read_path.ensures c.in-Ok.is is e)

pub returns-else-eq-clause-complete : goal.returns-else-eq-clause-complete
returns-else-eq-clause-complete c = λ p is e. absurd (path_not_refused c.args.word.now p c.in-Err.fault c.read_path.result c.read_path.ensures c.in-Err.is (search rules) is e)
