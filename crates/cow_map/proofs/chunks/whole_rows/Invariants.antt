use Rattle.std.proofs.Common.{◌≡◌, ◌≤◌, ◌-◌, drop, length}
use Rattle.cow_map.specs.CowMap.{joined}
use Rattle.cow_map.proofs.chunks.whole_rows.Given as goal

abbrev pub invariant-loop-n : goal.invariant-loop-n
invariant-loop-n g l = record {
  rows : l.n ≤ length l.rows;
  left : l.left ≤ length (joined (drop l.n l.rows));
  same : drop l.fn.count (joined l.rows) ≡ drop l.left (joined (drop l.n l.rows));
}

abbrev pub decreases-loop-n : goal.decreases-loop-n
decreases-loop-n g l = length l.rows - l.n
