use Rattle.std.proofs.Common.{◌≡◌}
use Rattle.reference.specs.Tree.{Tree}
use Rattle.images.specs.Spots.{IsAhead}
use Rattle.images.proofs.Printed.{PrintedTo}
use Rattle.volume.specs.Volumes.{MeanRooted}
use Rattle.images.proofs.image.print_all.Given as goal

-- everything is written up to the position, and these entries follow
abbrev pub invariant-loop : goal.invariant-loop
invariant-loop g l = record {
  tree : l.blocks ≡ l.frozen;
  printed : (t : Tree) → MeanRooted l.frozen t → PrintedTo (g.W.Write.contents l.fn.writer) (g.W.Write.contents l.writer) t l.spot;
  ahead : (t : Tree) → MeanRooted l.frozen t → IsAhead t l.spot.last l.ahead;
}
