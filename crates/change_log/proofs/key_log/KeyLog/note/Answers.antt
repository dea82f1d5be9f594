use Rattle.change_log.proofs.Noting.{msgs_turn}
use Rattle.std.proofs.Common.{arith}
use Rattle.change_log.proofs.key_log.KeyLog.note.Goals as goal

pub loop-msg-preserved : goal.loop-msg-preserved
loop-msg-preserved g c = msgs_turn c.args.msgs.now c.loop-msg.msg-index c.msg-item.result c.args.self.now c.loop-msg.self c.note_msg.new.self (omega arith) c.msg-item.is c.loop-msg.invariant c.in_ok-note_msg.ensures
