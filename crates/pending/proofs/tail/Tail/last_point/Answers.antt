use Rattle.std.proofs.Common.{◌≡◌, ◌++◌, ap, sym, ◌∙◌, subst}
use Rattle.std.specs.Option.{option_copied}
use Rattle.pending.specs.LastPoint.{IsLastPoint}
use Rattle.pending.proofs.LastPoints.{last_then}
use Rattle.pending.proofs.tail.Tail.last_point.Goals as goal

pub returns : goal.returns
returns g c =
    let lo = c.args.lo.now in
    let hi = option_copied c.args.hi in
    let xs = c.as_slices.result.0.now in
    let ys = c.as_slices.result.1.now in
    let whole : xs ++ ys ≡ c.args.self.now.0 = c.as_slices.ensures.items ∙ ap (λ p. p.0) c.self.view_is in
    let last = last_then xs ys lo hi (option_copied c.last_point-in_near.result) (option_copied c.last_point.result) c.last_point-in_near.ensures c.last_point.ensures in
    subst (λ ms. IsLastPoint ms lo hi (option_copied c.later.result)) whole (subst (IsLastPoint (xs ++ ys) lo hi) (sym c.later.ensures) last)
