use Rattle.std.proofs.Common.{ap, ◌∙◌, None}
use Rattle.node.specs.See.{seen_slots}
use Rattle.node.proofs.Placing.{all_placed, all_placed-empty}
use Rattle.node.proofs.node.batch.copy_batches.Goals as goal

pub loop-msg-init : goal.loop-msg-init
loop-msg-init g c = ap (all_placed None c.args.msgs.now (seen_slots c.args.slots.now)) c.in_ok-batches_by_slot.ensures ∙ all_placed-empty None c.args.msgs.now c.args.slots.now
