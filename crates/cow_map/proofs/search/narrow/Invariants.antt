use Rattle.std.proofs.Common.{◌-◌, ℕ, List}
use Rattle.cow_map.specs.Searching.{IsLeft}
use Rattle.cow_map.proofs.search.narrow.Given as goal

abbrev pub invariant-loop-low : goal.invariant-loop-low
invariant-loop-low g l = IsLeft (λ (e : List ℕ × g.row.T.Denot). e.0) l.entries l.key l.low l.high l.below l.above

abbrev pub decreases-loop-low : goal.decreases-loop-low
decreases-loop-low g l = l.high - l.low
