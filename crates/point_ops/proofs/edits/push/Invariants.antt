use Rattle.std.proofs.Common.{◌≡◌, ◌≤◌, ◌<◌, length, Option}
use Rattle.point_ops.specs.KeyOps.{edits_effect}
use Rattle.point_ops.proofs.edits.push.Given as goal

abbrev pub invariant-loop-alloc : goal.invariant-loop-alloc
invariant-loop-alloc g l = record {
  meaning : (o : Option g.row.U-Value.Denot) → edits_effect g.U.Update.means l.updates.items o ≡ edits_effect g.U.Update.means l.initial.updates.items o;
  bound : length l.updates.items ≤ length l.initial.updates.items;
  some : 0 < length l.initial.updates.items → 0 < length l.updates.items;
}

abbrev pub decreases-loop-alloc : goal.decreases-loop-alloc
decreases-loop-alloc g l = length l.updates.items
