use Rattle.std.proofs.Common.{◌≡◌, ◌≤◌, ◌+◌, [], None, drop, length}
use Rattle.point_ops.specs.PointOps.{point_msgs}
use Rattle.node.specs.Lawful.{Rises}
use Rattle.flush.specs.Merge.{IsFilled}
use Rattle.flush.proofs.apply_pass.search_along.Given as goal

abbrev pub invariant-loop-key : goal.invariant-loop-key
invariant-loop-key g l = record {
  filled : IsFilled g.U.Update.means l.most (point_msgs l.fn.walk) l.count l.fn.entries.items l.entries.items;
  rest : point_msgs l.walk ≡ drop l.count (point_msgs l.fn.walk);
  rising : Rises [] None l.entries.items;
  small : l.count ≤ l.few + l.few;
}

abbrev pub decreases-loop-key : goal.decreases-loop-key
decreases-loop-key g l = length l.walk
