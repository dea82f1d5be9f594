use Rattle.std.proofs.Common.{◌≤◌, ◌+◌, List, length}
use Rattle.message.specs.declared.msg.Msg.{Msg}
use Rattle.message.specs.Effects.{Takes}
use Rattle.pending.proofs.pending.Pending.append_reserved.Given as goal

abbrev pub invariant-loop-msg : goal.invariant-loop-msg
invariant-loop-msg g l = record {
  room : length l.taken ≤ l.self.1;
  left : l.initial.self.1 + length l.taken ≤ l.self.1 + length l.initial.taken;
  takes : (c : List (Msg g.row.U.Denot g.row.U-Value.Denot)) → Takes g.U.Update.means l.self.0 l.taken c → Takes g.U.Update.means l.initial.self.0 l.initial.taken c;
}

abbrev pub decreases-loop-msg : goal.decreases-loop-msg
decreases-loop-msg g l = length l.taken
