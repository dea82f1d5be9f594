use Rattle.std.proofs.Common.{◌≡◌, ◌+◌, ℕ, List, Option, length}
use Rattle.std.specs.Option.{option_copied}
use Rattle.scan.specs.Merging.{AreAll}
use Rattle.scan.proofs.Merging.{IsMoving}
use Rattle.scan.proofs.apply_pass.push_before.Given as goal

abbrev pub invariant-moves : goal.invariant-moves
invariant-moves g l = record {
  count : length l.pairs.items + length l.rest.items ≡ length l.fn.pairs.items + length l.fn.rest.items;
  moving : (f : List ℕ → Option g.row.V.Denot) (lo : List ℕ) (hi : Option (List ℕ)) → AreAll f lo hi l.fn.rest.items → IsMoving f lo hi (option_copied l.stop) l.limit l.fn.pairs.items l.pairs.items l.rest.items;
}

abbrev pub decreases-moves : goal.decreases-moves
decreases-moves g l = length l.rest.items
