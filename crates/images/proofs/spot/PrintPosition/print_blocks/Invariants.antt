use Rattle.std.proofs.Common.{◌≡◌, ◌-◌, ◌^◌}
use Rattle.reference.specs.Tree.{Tree}
use Rattle.images.specs.Spots.{IsAt, Passes}
use Rattle.volume.specs.Volumes.{MeanRooted}
use Rattle.images.proofs.spot.PrintPosition.print_blocks.Given as goal

-- lines of blocks were added
abbrev pub invariant-lines : goal.invariant-lines
invariant-lines l = record {
  tree : l.blocks ≡ l.initial.blocks;
  last : l.self.last ≡ l.initial.self.last;
  passes : (t : Tree) → MeanRooted l.initial.blocks t → IsAt t l.initial.self → Passes t l.initial.self l.initial.text.items l.self l.text.items;
}

abbrev pub decreases-lines : goal.decreases-lines
decreases-lines l = 2 ^ 32 - l.self.from
