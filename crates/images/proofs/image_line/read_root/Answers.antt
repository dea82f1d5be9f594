use Rattle.std.proofs.Common.{rules}
use Rattle.images.proofs.ImageLineFacts.{no_root}
use Rattle.images.proofs.image_line.read_root.Goals as goal

pub returns-in-None : goal.returns-in-None
returns-in-None c = no_root c.args.line.now c.in-Some.number.now (search rules) (rw c.as_slice-2.ensures at c.in-Some.ensures.cases.1) c.in-None.ensures
