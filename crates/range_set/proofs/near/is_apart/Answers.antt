use Rattle.std.proofs.Common.{◌≡◌, ◌∙◌, ap, sym, subst, true}
use Rattle.std.specs.Option.{option_copied}
use Rattle.std.specs.Ordering.{is_le}
use Rattle.message.specs.Ranges.{reaches, ends_within}
use Rattle.range_set.specs.Ends.{IsLowEnd, IsHighEnd}
use Rattle.range_set.proofs.Widening.{same_low, same_high, widens}
use Rattle.range_set.proofs.near.is_apart.Goals as goal

pub returns-then-is_le : goal.returns-then-is_le
returns-then-is_le c h =
    let rs = c.args.ranges.now in
    let lo = c.args.lo.now in
    let hi = option_copied c.args.hi in
    let before : reaches lo c.low_end.result.now ≡ true = sym (c.is_le.ensures ∙ ap is_le c.cmp.ensures) ∙ c.if-is_le.true in
    let within : ends_within (option_copied c.high_end.result) hi ≡ true = sym c.ends_by.ensures ∙ h in
    let low : IsLowEnd rs lo lo = subst (λ k. IsLowEnd rs lo k) (same_low rs lo c.low_end.result.now c.low_end.ensures before) c.low_end.ensures in
    let high : IsHighEnd rs hi hi = subst (λ e. IsHighEnd rs hi e) (same_high rs hi (option_copied c.high_end.result) c.high_end.ensures within) c.high_end.ensures in
    widens rs lo lo hi hi c.requires.some low high
