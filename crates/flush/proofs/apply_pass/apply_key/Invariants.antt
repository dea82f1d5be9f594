use Rattle.std.proofs.Common.{◌≡◌, ℕ, List, ◌-◌, ◌≤◌, [], None, Some, vec_capacity}
use Rattle.point_ops.specs.PointOps.{point_msgs}
use Rattle.node.specs.Lawful.{first_key, Rises}
use Rattle.node.specs.Leaves.{IsPlace}
use Rattle.flush.specs.Merge.{IsFilled}
use Rattle.flush.proofs.apply_pass.apply_key.Given as goal

abbrev pub invariant-loop-count : goal.invariant-loop-count
invariant-loop-count g l = record {
  within : l.count ≤ l.len;
  filled : IsFilled g.U.Update.means l.most (point_msgs l.walk) l.count l.fn.entries.items l.entries.items;
  rising : Rises [] None l.entries.items;
  place : (k : List ℕ) → first_key None l.walk ≡ Some k → IsPlace l.entries.items k l.place;
  capacity : vec_capacity l.fn.entries ≤ vec_capacity l.entries;
}

abbrev pub decreases-loop-count : goal.decreases-loop-count
decreases-loop-count g l = l.len - l.count
