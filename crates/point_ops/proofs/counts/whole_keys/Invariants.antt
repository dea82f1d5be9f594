use Rattle.std.proofs.Common.{◌≡◌, ◌≤◌, ◌+◌, length, drop, take}
use Rattle.point_ops.specs.PointOps.{point_count}
use Rattle.point_ops.proofs.counts.whole_keys.Given as goal

abbrev pub invariant-loop-run : goal.invariant-loop-run
invariant-loop-run g l = record {
  walk : l.walk ≡ drop l.keys l.rows;
  within : l.keys ≤ length l.rows;
  counted : point_count (take l.keys l.rows) + l.left ≡ l.count;
  few : l.keys + l.left ≤ l.count;
}

abbrev pub decreases-loop-run : goal.decreases-loop-run
decreases-loop-run g l = length l.walk
