use Rattle.std.proofs.Common.{arith, ap, ◌∙◌}
use Rattle.std.specs.Option.{option_copied}
use Rattle.message.specs.Effects.{point_key}
use Rattle.message.proofs.PointKeys.{stop_none, stop_more, stop_all}
use Rattle.pending.proofs.segment.next_point.Goals as goal

pub loop-waiting-init : goal.loop-waiting-init
loop-waiting-init g c = stop_none c.args.from.now (option_copied c.args.end)

pub loop-waiting-preserved : goal.loop-waiting-preserved
loop-waiting-preserved g c = stop_more c.args.msgs.now c.loop-waiting.waiting-index c.waiting-item.result (option_copied c.point_key.result) c.args.from.now (option_copied c.args.end) (option_copied c.loop-waiting.stop) (option_copied c.point_stop-stop.result) (omega arith) c.waiting-item.is (c.point_key.ensures ∙ ap (λ m. point_key m) c.as_msg.ensures) c.loop-waiting.invariant c.point_stop-stop.ensures

pub returns : goal.returns
returns g c = stop_all c.args.msgs.now c.loop-waiting.waiting-index c.args.from.now (option_copied c.args.end) (option_copied c.loop-waiting.stop) (omega arith) c.loop-waiting.invariant
