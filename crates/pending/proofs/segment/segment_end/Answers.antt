use Rattle.std.proofs.Common.{arith, ap, sym, subst, ◌∙◌}
use Rattle.std.specs.Option.{option_copied}
use Rattle.message.specs.Stretches.{is_for, IsNextEnd}
use Rattle.message.proofs.StretchEnds.{stretch_more, stretch_of_one}
use Rattle.pending.proofs.segment.segment_end.Goals as goal

pub returns-then-is_for : goal.returns-then-is_for
returns-then-is_for g c = stretch_of_one c.args.msgs.now c.loop-waiting.waiting-index c.waiting-item.result c.args.from.now c.in_ok-next.field-0 (option_copied c.args.end) (omega arith) c.waiting-item.is c.requires (ap (λ m. is_for m c.args.from.now) (sym c.as_msg-msg.ensures) ∙ sym c.is_for.ensures ∙ c.if-is_for.true) c.in_ok-next.ensures

pub loop-waiting-preserved : goal.loop-waiting-preserved
loop-waiting-preserved g c = stretch_more c.args.msgs.now c.loop-waiting.waiting-index c.waiting-item.result c.args.from.now (option_copied c.args.end) (option_copied c.loop-waiting.stop) (option_copied c.next_end.result) (option_copied c.earlier-stop.result) (omega arith) c.waiting-item.is c.loop-waiting.invariant (subst (λ m. IsNextEnd c.args.from.now m (option_copied c.next_end.result)) c.as_msg-msg.ensures c.next_end.ensures) (ap (λ m. is_for m c.args.from.now) (sym c.as_msg-msg.ensures) ∙ sym c.is_for.ensures ∙ c.if-is_for.false) c.earlier-stop.ensures
