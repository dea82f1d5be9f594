use Rattle.std.proofs.Common.{◌≡◌, ◌≤◌, ◌<◌, ◌+◌, ◌^◌, take}
use Rattle.node.specs.Report.{own, total_below}
use Rattle.node.specs.See.{seen_slots}
use Rattle.node.proofs.node.count.+total.Given as goal

abbrev pub invariant-loop-slot : goal.invariant-loop-slot
invariant-loop-slot g l = record {
  at_most : l.sum ≤ own l.quantity l.node + total_below l.quantity (seen_slots (take l.slot-index l.slot-items));
  exact : l.sum < 2 ^ 127 → l.sum ≡ own l.quantity l.node + total_below l.quantity (seen_slots (take l.slot-index l.slot-items));
}
