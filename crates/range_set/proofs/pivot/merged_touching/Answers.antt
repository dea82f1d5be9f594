use Rattle.std.proofs.Common.{◌≡◌, ap, sym, ◌∙◌, Some}
use Rattle.std.specs.List.{slice_get}
use Rattle.pathkey.specs.Order.{same}
use Rattle.pathkey.proofs.OrderFacts.{same_true}
use Rattle.range_set.proofs.Ends.{not_false}
use Rattle.range_set.proofs.pivot.merged_touching.Goals as goal

pub returns : goal.returns
returns c =
    let end = c.in-Some-default-Some.end in
    let begin = c.in-Some.begin.now in
    let high = c.in-Some.high.now in
    let is : end ≡ begin = same_true end begin (not_false (same end begin) (sym c.ne.ensures ∙ c.if-ne.false)) in (
      end,
      sym c.in-Some-default-Some.ensures ∙ ap (λ t. Some (c.in-Some-default-Some.low.now, t)) c.in-Some-default-Some.field-0-1-is ∙ ap (λ k. Some (k, Some end)) (sym c.in_ok-lo.ensures),
      ap (λ t. slice_get t 0) (sym c.cursor.ensures) ∙ sym c.in-Some.ensures ∙ ap (λ k. Some (k, high)) (sym is) ∙ ap (λ h. Some (end, h)) (sym (c.in_ok-hi.ensures ∙ c.as_ref.ensures.value)),
    )
