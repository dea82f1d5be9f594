use Rattle.std.proofs.Common.{◌≡◌, ap, sym, ◌∙◌, subst, Some, true, false}
use Rattle.std.specs.Option.{option_copied}
use Rattle.pathkey.specs.Keys.{is_below}
use Rattle.range_set.specs.Ends.{IsHighEnd}
use Rattle.range_set.proofs.Last.{by_key_is}
use Rattle.range_set.proofs.Widening.{high_found, high_before, high_none}
use Rattle.range_set.proofs.near.high_end.Goals as goal

pub returns-in_default : goal.returns-in_default
returns-in_default c =
    let rs = c.args.ranges.now in
    let h = c.in_ok-key.key.now in
    subst (λ t. IsHighEnd rs (option_copied t) (Some h)) (sym c.in_ok-key.was) (high_none rs h (c.in_default.ensures ∙ by_key_is h rs c.requires) c.requires)

pub returns-then-is_before_end : goal.returns-then-is_before_end
returns-then-is_before_end c =
    let rs = c.args.ranges.now in
    let h = c.in_ok-key.key.now in
    let high = c.in-Some.high.now in
    let below : is_below h high ≡ true = sym (c.is_before_end.ensures ∙ ap (λ d. is_below h d) c.as_ref.ensures.value) ∙ c.if-is_before_end.true in
    let found : IsHighEnd rs (Some h) high = high_found rs h (c.in-Some.field-0-0.now, high) (c.in-Some.ensures ∙ by_key_is h rs c.requires) c.requires below in
    subst (λ t. IsHighEnd rs (option_copied t) (option_copied c.as_ref-then-is_before_end.result)) (sym c.in_ok-key.was) (subst (λ d. IsHighEnd rs (Some h) d) (sym c.as_ref-then-is_before_end.ensures.value) found)

pub returns-else-is_before_end : goal.returns-else-is_before_end
returns-else-is_before_end c =
    let rs = c.args.ranges.now in
    let h = c.in_ok-key.key.now in
    let high = c.in-Some.high.now in
    let below : is_below h high ≡ false = sym (c.is_before_end.ensures ∙ ap (λ d. is_below h d) c.as_ref.ensures.value) ∙ c.if-is_before_end.false in
    subst (λ t. IsHighEnd rs (option_copied t) (Some h)) (sym c.in_ok-key.was) (high_before rs h (c.in-Some.field-0-0.now, high) (c.in-Some.ensures ∙ by_key_is h rs c.requires) c.requires below)
