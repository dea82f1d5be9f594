use Rattle.std.proofs.Common.{List, [], drop}
use Rattle.message.specs.declared.msg.Msg.{Msg}
use Rattle.message.specs.Effects.{Takes}
use Rattle.node.specs.See.{seen_slots}
use Rattle.split_merge.specs.Raised.{all_msgs}
use Rattle.split_merge.proofs.raise_root.collected_msgs.Given as goal

abbrev pub invariant-loop-slot : goal.invariant-loop-slot
invariant-loop-slot g l = (c : List (Msg g.row.U.Denot g.row.U-Value.Denot)) → Takes g.U.Update.means l.all.0 (all_msgs (seen_slots (drop l.slot-index l.slots))) c → Takes g.U.Update.means [] (all_msgs (seen_slots l.slots)) c
