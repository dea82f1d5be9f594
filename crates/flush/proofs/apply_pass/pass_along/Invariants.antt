use Rattle.std.proofs.Common.{◌≡◌, ◌≤◌, ◌+◌, ◌++◌, [], None, drop, length, vec_capacity}
use Rattle.point_ops.specs.PointOps.{point_msgs}
use Rattle.node.specs.Lawful.{first_key, Rises}
use Rattle.flush.specs.Merge.{IsFilled}
use Rattle.flush.proofs.apply_pass.pass_along.Given as goal

abbrev pub invariant-loop-key : goal.invariant-loop-key
invariant-loop-key g l = record {
  filled : IsFilled g.U.Update.means l.room (point_msgs l.fn.walk) l.count l.fn.left.items (l.done.items ++ l.left.items);
  rest : point_msgs l.walk ≡ drop l.count (point_msgs l.fn.walk);
  rising : Rises [] None (l.done.items ++ l.left.items);
  ahead : Rises [] (first_key None l.walk) l.done.items;
  fits : length l.done.items + length l.left.items ≤ l.room;
  capacity : l.room ≤ vec_capacity l.done;
  small : l.count ≤ l.few + l.few;
}

abbrev pub decreases-loop-key : goal.decreases-loop-key
decreases-loop-key g l = length l.walk
