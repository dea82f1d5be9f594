use Rattle.std.proofs.Common.{arith, ap, refl, ◌∙◌}
use Rattle.std.specs.Option.{option_copied}
use Rattle.message.specs.Effects.{point_key}
use Rattle.pending.proofs.LastPoints.{last_more, last_whole}
use Rattle.pending.proofs.segment.last_point.Goals as goal

pub loop-waiting-init : goal.loop-waiting-init
loop-waiting-init g c = λ k h. refl

pub loop-waiting-preserved : goal.loop-waiting-preserved
loop-waiting-preserved g c = last_more c.args.msgs.now c.loop-waiting.waiting-index c.waiting-item.result (option_copied c.point_key.result) c.args.lo.now (option_copied c.args.hi) (option_copied c.loop-waiting.last) (option_copied c.point_within.result) (option_copied c.later-last.result) (omega arith) c.waiting-item.is (c.point_key.ensures ∙ ap (λ m. point_key m) c.as_msg.ensures) c.loop-waiting.invariant c.point_within.ensures c.later-last.ensures

pub returns : goal.returns
returns g c = last_whole c.args.msgs.now c.loop-waiting.waiting-index c.args.lo.now (option_copied c.args.hi) (option_copied c.loop-waiting.last) (omega arith) c.loop-waiting.invariant
