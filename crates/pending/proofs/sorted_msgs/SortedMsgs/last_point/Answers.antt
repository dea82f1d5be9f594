use Rattle.std.proofs.Common.{◌∙◌, ap, sym, subst}
use Rattle.std.specs.Option.{option_copied}
use Rattle.point_ops.specs.PointOps.{left}
use Rattle.point_ops.proofs.Parting.{runs_left}
use Rattle.pending.specs.LastPoint.{point_within, IsLastPoint}
use Rattle.pending.proofs.LastPoints.{last_below_keys, sorted_last}
use Rattle.pending.proofs.Runs.{left_keys, left_rises}
use Rattle.pending.proofs.sorted_msgs.SortedMsgs.last_point.Goals as goal

pub returns : goal.returns
returns g c =
    let lo = c.args.lo.now in
    let hi = option_copied c.args.hi in
    let last = option_copied c.point_within.result in
    let es = c.self.inside.points in
    let n = c.self.inside.consumed in
    let is = c.last_before.ensures ∙ sym (last_below_keys hi (left n es) es (left_keys n es)) in
    subst (λ ms. IsLastPoint ms lo hi last) c.self.view_is (sorted_last c.self.inside.ranges (left n es) lo hi last (left_rises n es c.assert_invariant.ensures.rises) (runs_left n es c.self.invariant.some c.assert_invariant.ensures.runs) (c.point_within.ensures ∙ ap (λ o. point_within o lo hi) is))
