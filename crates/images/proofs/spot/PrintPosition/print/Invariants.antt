use Rattle.std.proofs.Common.{◌≡◌}
use Rattle.reference.specs.Tree.{Tree}
use Rattle.images.specs.Spots.{IsAhead, IsAt}
use Rattle.images.proofs.Spots.{Prints}
use Rattle.volume.specs.Volumes.{MeanRooted}
use Rattle.images.proofs.spot.PrintPosition.print.Given as goal

-- lines of entries were added
abbrev pub invariant-loop : goal.invariant-loop
invariant-loop l = record {
  tree : l.blocks ≡ l.frozen;
  prints : (t : Tree) → MeanRooted l.frozen t → IsAt t l.fn.self → IsAhead t l.fn.self.last l.fn.ahead → Prints t l.fn.self l.fn.text.items l.self l.text.items l.ahead;
}
