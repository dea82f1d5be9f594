use Rattle.std.proofs.Common.{◌∙◌, ap, sym, subst}
use Rattle.std.specs.Ordering.{is_lt}
use Rattle.cow_map.specs.Places.{Rises, last_of}
use Rattle.point_ops.proofs.Nearby.{before_last, not_before_last}
use Rattle.point_ops.proofs.points.PointOps.end_before.Goals as goal

pub returns-in-Some-clause-yes : goal.returns-in-Some-clause-yes
returns-in-Some-clause-yes g c h =
    before_last c.args.pivot.now (c.in-Some.last.now, c.in-Some.field-0-1.now) c.args.self.now (c.in-Some.ensures ∙ ap (λ t. last_of t) c.self.view_is) (subst (λ t. Rises t) c.self.view_is c.assert_invariant.ensures) (sym (c.is_lt.ensures ∙ ap is_lt c.cmp.ensures) ∙ h)

pub returns-in-Some-clause-no : goal.returns-in-Some-clause-no
returns-in-Some-clause-no g c h =
    not_before_last c.args.pivot.now (c.in-Some.last.now, c.in-Some.field-0-1.now) c.args.self.now (c.in-Some.ensures ∙ ap (λ t. last_of t) c.self.view_is) (sym (c.is_lt.ensures ∙ ap is_lt c.cmp.ensures) ∙ h)
