use Rattle.std.proofs.Common.{◌≡◌, ◌+◌, ◌≤◌, ◌<◌, take}
use Rattle.node.specs.Lawful.{pending}
use Rattle.node.specs.See.{seen_slots}
use Rattle.node.specs.StepRows.{piece_count}
use Rattle.flush.proofs.inner.count_fitting.Given as goal

abbrev pub invariant-loop-msg : goal.invariant-loop-msg
invariant-loop-msg g l = record {
  counted : l.count ≡ l.msg-index;
  small : l.count < 65536;
  room : l.total ≤ l.room;
  sum : l.total ≡ pending (seen_slots l.slots) + piece_count (take l.msg-index l.msgs) (seen_slots l.slots);
}
