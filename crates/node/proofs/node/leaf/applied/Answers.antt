use Rattle.node.proofs.Applying.{applied_more}
use Rattle.node.proofs.node.leaf.applied.Goals as goal

pub loop-msg-preserved : goal.loop-msg-preserved
loop-msg-preserved g c = record {
  applied = applied_more g.U.Update.means c.args.msgs.now c.loop-msg.msg-index c.msg-item.result c.args.entries.now c.loop-msg.new.items c.apply.new.entries.items c.loop-msg-test.true c.msg-item.is c.loop-msg.invariant.applied c.in_ok-apply.ensures.ok;
  rising = c.apply.ensures.rising;
}
