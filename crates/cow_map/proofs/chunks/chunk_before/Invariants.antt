use Rattle.std.proofs.Common.{◌-◌}
use Rattle.cow_map.specs.CowMap.{first_key}
use Rattle.cow_map.specs.Searching.{IsLeft}
use Rattle.cow_map.proofs.chunks.chunk_before.Given as goal

abbrev pub invariant-loop-low : goal.invariant-loop-low
invariant-loop-low g l = IsLeft first_key l.rows l.key l.low l.high l.below l.above

abbrev pub decreases-loop-low : goal.decreases-loop-low
decreases-loop-low g l = l.high - l.low
