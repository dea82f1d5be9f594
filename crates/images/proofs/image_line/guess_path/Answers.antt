use Rattle.std.proofs.Common.{rules}
use Rattle.images.proofs.ImageLineFacts.{path_spelled, path_not_refused}
use Rattle.images.proofs.image_line.guess_path.Goals as goal

pub returns-in-Ok-clause-complete : goal.returns-in-Ok-clause-complete
returns-in-Ok-clause-complete c = λ p is ne e. path_spelled c.args.word.now p c.in-Ok.path c.read_path.result c.below_root.result c.read_path.ensures c.in-Ok.is is ne e c.below_root.ensures.same

pub returns-else-eq-clause-complete : goal.returns-else-eq-clause-complete
returns-else-eq-clause-complete c = λ p is ne e. absurd (path_not_refused c.args.word.now p c.in-Err.fault c.read_path.result c.read_path.ensures c.in-Err.is (search rules) is ne e)
