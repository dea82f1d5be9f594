use Rattle.std.proofs.Common.{◌∙◌, ap, subst}
use Rattle.std.specs.Option.{option_copied}
use Rattle.cow_map.specs.Places.{Rises}
use Rattle.point_ops.proofs.Nearby.{any_from, next_below}
use Rattle.point_ops.proofs.points.PointOps.has_within.Goals as goal

pub returns-in-None : goal.returns-in-None
returns-in-None g c =
    let hi = option_copied c.args.hi in
    ap (λ o. next_below o hi) c.in-None.ensures ∙ any_from (record { lo = c.args.lo.now; hi = hi }) c.args.self.now (subst (λ t. Rises t) c.self.view_is c.assert_invariant.ensures)

pub returns-in-Some : goal.returns-in-Some
returns-in-Some g c =
    let hi = option_copied c.args.hi in
    c.is_before_end.ensures ∙ ap (λ o. next_below o hi) c.in-Some.ensures ∙ any_from (record { lo = c.args.lo.now; hi = hi }) c.args.self.now (subst (λ t. Rises t) c.self.view_is c.assert_invariant.ensures)
