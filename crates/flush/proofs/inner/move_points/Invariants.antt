use Rattle.std.proofs.Common.{◌-◌, ◌≤◌}
use Rattle.node.specs.See.{seen_slots}
use Rattle.flush.specs.Sunk.{Moved}
use Rattle.flush.proofs.inner.move_points.Given as goal

abbrev pub invariant-loop-count : goal.invariant-loop-count
invariant-loop-count g l = record {
  within : l.count ≤ l.room;
  moved : Moved g.U.Update.means l.count l.fn.list.0 l.list.0 (seen_slots l.fn.below) (seen_slots l.below);
}

abbrev pub decreases-loop-count : goal.decreases-loop-count
decreases-loop-count g l = l.room - l.count
