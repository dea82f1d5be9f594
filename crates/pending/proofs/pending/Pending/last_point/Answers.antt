use Rattle.std.proofs.Common.{◌++◌, ap, sym, subst}
use Rattle.std.specs.Option.{option_copied}
use Rattle.pending.specs.LastPoint.{IsLastPoint}
use Rattle.pending.proofs.LastPoints.{last_then}
use Rattle.pending.proofs.pending.Pending.last_point.Goals as goal

pub returns : goal.returns
returns g c =
    let lo = c.args.lo.now in
    let hi = option_copied c.args.hi in
    let xs = c.self.inside.sorted in
    let ys = c.self.inside.tail_msgs.0 in
    let last = last_then xs ys lo hi (option_copied c.last_point-in_sorted.result) (option_copied c.last_point.result) c.last_point-in_sorted.ensures c.last_point.ensures in
    subst (λ ms. IsLastPoint ms lo hi (option_copied c.later.result)) (ap (λ p. p.0) c.self.view_is) (subst (IsLastPoint (xs ++ ys) lo hi) (sym c.later.ensures) last)
