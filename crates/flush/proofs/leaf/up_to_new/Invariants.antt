use Rattle.std.proofs.Common.{◌≤◌, ◌+◌, length}
use Rattle.point_ops.specs.PointOps.{point_msgs}
use Rattle.flush.proofs.leaf.up_to_new.Given as goal

abbrev pub invariant-loop-len : goal.invariant-loop-len
invariant-loop-len g l = l.count + length (point_msgs l.walk) ≤ length (point_msgs l.fn.walk)

abbrev pub decreases-loop-len : goal.decreases-loop-len
decreases-loop-len g l = length l.walk
