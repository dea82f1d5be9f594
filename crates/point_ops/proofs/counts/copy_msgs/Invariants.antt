use Rattle.std.proofs.Common.{◌≡◌, ◌++◌, length, take}
use Rattle.point_ops.specs.PointOps.{left, point_msgs, AreRuns, IsLeft}
use Rattle.point_ops.proofs.counts.copy_msgs.Given as goal

abbrev pub invariant-loop-key : goal.invariant-loop-key
invariant-loop-key g l = record {
  same : take l.count (l.front.items ++ point_msgs (left l.consumed l.walk)) ≡ take l.count (l.fn.front.items ++ point_msgs (left l.fn.consumed l.rows));
  runs : AreRuns l.walk;
  fits : IsLeft l.consumed l.walk;
}

abbrev pub decreases-loop-key : goal.decreases-loop-key
decreases-loop-key g l = length l.walk
