use Rattle.std.proofs.Common.{ap, sym, ◌∙◌}
use Rattle.pathkey.specs.Keys.{is_below}
use Rattle.range_set.proofs.Last.{by_key_is, covered_by_last, ends_after}
use Rattle.range_set.proofs.near.is_covered.Goals as goal

pub returns-in-None : goal.returns-in-None
returns-in-None c =
    let rs = c.args.ranges.now in
    let k = c.args.key.now in
    sym (covered_by_last rs k c.requires ∙ ap (λ t. ends_after t k) (sym (c.in-None.ensures ∙ by_key_is k rs c.requires)))

pub returns-in-Some : goal.returns-in-Some
returns-in-Some c =
    let rs = c.args.ranges.now in
    let k = c.args.key.now in
    c.is_before_end.ensures ∙ ap (λ h. is_below k h) c.as_ref.ensures.value ∙ sym (covered_by_last rs k c.requires ∙ ap (λ t. ends_after t k) (sym (c.in-Some.ensures ∙ by_key_is k rs c.requires)))
