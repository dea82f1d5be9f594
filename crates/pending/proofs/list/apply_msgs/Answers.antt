use Rattle.std.proofs.Common.{ap, ◌∙◌}
use Rattle.message.specs.Effects.{effect}
use Rattle.message.proofs.Lists.{effects_turn}
use Rattle.pending.proofs.list.apply_msgs.Goals as goal

pub loop-waiting-preserved : goal.loop-waiting-preserved
loop-waiting-preserved g c = effects_turn g.U.Update.means c.args.msgs.now c.loop-waiting.waiting-index c.waiting-item.result c.args.key.now c.args.old c.loop-waiting.value _ c.loop-waiting-test.true c.waiting-item.is c.loop-waiting.invariant (c.in_ok-value.ensures ∙ ap (λ m. effect g.U.Update.means m c.args.key.now c.loop-waiting.value) c.as_msg.ensures)
