use Rattle.std.proofs.Common.{◌≡◌, ◌++◌, ap, ◌∙◌, subst}
use Rattle.std.specs.Option.{option_copied}
use Rattle.std.proofs.lemmas.Result.{IfOk-weaker}
use Rattle.message.specs.Stretches.{IsStretch}
use Rattle.message.proofs.SortedStretches.{stretch_then}
use Rattle.pending.proofs.tail.Tail.stretch_stop.Goals as goal

pub returns : goal.returns
returns g c =
    let from = c.args.from.now in
    let end = option_copied c.args.end in
    let xs = c.as_slices.result.0.now in
    let ys = c.as_slices.result.1.now in
    let whole : xs ++ ys ≡ c.args.self.now.0 = c.as_slices.ensures.items ∙ ap (λ p. p.0) c.self.view_is in
    IfOk-weaker c.segment_end-2.result _ (λ stop. IsStretch c.args.self.now.0 from end stop)
    (λ stop y. subst (λ ms. IsStretch ms from end stop) whole (stretch_then xs ys from end c.in_ok-stop.stop stop c.in_ok-stop.ensures (subst (λ o. IsStretch ys from o stop) c.as_ref.ensures.value y)))
    c.segment_end-2.ensures
