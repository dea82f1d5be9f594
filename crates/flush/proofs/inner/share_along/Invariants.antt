use Rattle.std.proofs.Common.{◌-◌, ◌≤◌}
use Rattle.point_ops.specs.PointOps.{point_msgs}
use Rattle.node.specs.See.{seen_slots}
use Rattle.node.specs.Site.{slots_from}
use Rattle.flush.specs.Sunk.{BeginsByFirst, Moved}
use Rattle.flush.proofs.inner.share_along.Given as goal

abbrev pub invariant-loop-count : goal.invariant-loop-count
invariant-loop-count g l = record {
  within : l.count ≤ l.room;
  moved : Moved g.U.Update.means l.count (point_msgs l.fn.walk) (point_msgs l.rest) (seen_slots l.fn.below) (seen_slots l.below);
  begins : BeginsByFirst l.rest (slots_from l.i (seen_slots l.below));
}

abbrev pub decreases-loop-count : goal.decreases-loop-count
decreases-loop-count g l = l.room - l.count
