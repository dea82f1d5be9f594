use Rattle.std.proofs.Common.{◌≡◌, List, ◌++◌, length}
use Rattle.images.specs.Taken.{Took}
use Rattle.node.specs.declared.shape.Shape.{Shape}
use Rattle.reference.specs.Image.{Text}
use Rattle.delta.specs.Deltas.{Line, text_of}
use Rattle.delta.specs.Walks.{Walks}
use Rattle.delta.proofs.patch.keep_lines.Given as goal

abbrev pub invariant-loop : goal.invariant-loop
invariant-loop l = (kept : List Line) × (length kept ≡ l.counter) × Walks kept l.fn.walk l.walk × ((s : Shape) (text : Text) → Took s text l.fn.loader → Took s (text ++ text_of kept) l.loader)
