use Rattle.std.proofs.Common.{◌∙◌, ap, sym, subst}
use Rattle.std.specs.List.{slice_get}
use Rattle.std.specs.Ordering.{is_le}
use Rattle.cow_map.specs.Places.{Rises}
use Rattle.point_ops.proofs.Nearby.{from_first, not_from_first}
use Rattle.point_ops.proofs.points.PointOps.begin_from.Goals as goal

pub returns-in-Some-clause-yes : goal.returns-in-Some-clause-yes
returns-in-Some-clause-yes g c h =
    from_first c.args.lo.now (c.in-Some.first.now, c.in-Some.field-0-1.now) c.args.self.now (c.in-Some.ensures ∙ ap (λ t. slice_get t 0) (c.cursor.ensures ∙ c.self.view_is)) (subst (λ t. Rises t) c.self.view_is c.assert_invariant.ensures) (sym (c.is_le.ensures ∙ ap is_le c.cmp.ensures) ∙ h)

pub returns-in-Some-clause-no : goal.returns-in-Some-clause-no
returns-in-Some-clause-no g c h =
    not_from_first c.args.lo.now (c.in-Some.first.now, c.in-Some.field-0-1.now) c.args.self.now (c.in-Some.ensures ∙ ap (λ t. slice_get t 0) (c.cursor.ensures ∙ c.self.view_is)) (sym (c.is_le.ensures ∙ ap is_le c.cmp.ensures) ∙ h)
