use Rattle.std.proofs.Common.{sym, subst}
use Rattle.std.specs.Option.{option_copied}
use Rattle.range_set.specs.Ends.{IsLowEnd, IsHighEnd}
use Rattle.range_set.proofs.Widening.{widens}
use Rattle.range_set.proofs.near.widened.Goals as goal

pub returns : goal.returns
returns c =
    let rs = c.args.ranges.now in
    let lo = c.args.lo.now in
    let hi = option_copied c.args.hi in
    let low : IsLowEnd rs lo c.in_ok-low.low = subst (λ k. IsLowEnd rs lo k) (sym c.in_ok-low.ensures) c.low_end.ensures in
    let high : IsHighEnd rs hi c.in_ok-high.high = subst (λ h. IsHighEnd rs hi h) (sym c.in_ok-high.ensures) c.high_end.ensures in
    widens rs lo c.in_ok-low.low hi c.in_ok-high.high c.requires.some low high
