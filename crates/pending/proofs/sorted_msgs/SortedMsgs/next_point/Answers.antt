use Rattle.std.proofs.Common.{◌∙◌, ap, sym, subst}
use Rattle.std.specs.Option.{option_copied}
use Rattle.message.specs.PointKeys.{point_stop, IsPointStop}
use Rattle.point_ops.specs.PointOps.{left}
use Rattle.point_ops.proofs.Parting.{runs_left}
use Rattle.pending.proofs.Runs.{left_keys, left_rises}
use Rattle.pending.proofs.Stretching.{first_from_keys, sorted_stop}
use Rattle.pending.proofs.sorted_msgs.SortedMsgs.next_point.Goals as goal

pub returns : goal.returns
returns g c =
    let from = c.args.from.now in
    let end = option_copied c.args.end in
    let stop = option_copied c.point_stop.result in
    let es = c.self.inside.points in
    let n = c.self.inside.consumed in
    let next = c.first_from.ensures ∙ sym (first_from_keys from (left n es) es (left_keys n es)) in
    subst (λ ms. IsPointStop ms from end stop) c.self.view_is (sorted_stop c.self.inside.ranges (left n es) from end stop (left_rises n es c.assert_invariant.ensures.rises) (runs_left n es c.self.invariant.some c.assert_invariant.ensures.runs) (c.point_stop.ensures ∙ ap (λ o. point_stop o from end) next))
