use Rattle.std.proofs.Common.{refl}
use Rattle.delta.proofs.WalkFacts.{at_start}
use Rattle.delta.proofs.line_cursor.LineCursor.over.Goals as goal

pub returns : goal.returns
returns c = at_start c.args.printing.tree _ c.read.new.self refl c.requires.fresh refl refl (rw c.in_default.is at c.read.ensures)
