use Rattle.std.proofs.Common.{List, [], length}
use Rattle.images.specs.Taken.{Took}
use Rattle.node.specs.declared.shape.Shape.{Shape}
use Rattle.reference.specs.Image.{Text}
use Rattle.reference.specs.Tree.{Tree}
use Rattle.volume.specs.Volumes.{MeanRooted}
use Rattle.delta.specs.Deltas.{Command}
use Rattle.delta.specs.Patching.{IsDoing}
use Rattle.delta.specs.Texts.{TellsAll}
use Rattle.delta.specs.Walks.{SameTree, lines_from}
use Rattle.delta.proofs.patch.do_commands.Given as goal

abbrev pub invariant-commands : goal.invariant-commands
invariant-commands l = SameTree l.fn.walk l.walk × ((s : Shape) (t : Tree) (cs : List Command) → MeanRooted l.fn.walk.printing.tree t → TellsAll l.fn.commands cs → Took s [] l.fn.loader → (has : Text) × IsDoing cs (lines_from t l.fn.walk) l.rest (lines_from t l.walk) has × Took s has l.loader)

abbrev pub decreases-commands : goal.decreases-commands
decreases-commands l = length l.rest
