use Rattle.std.proofs.Common.{[], Some, subst}
use Rattle.cow_map.specs.Places.{AreBefore}
use Rattle.message.specs.Cuts.{LieIn}
use Rattle.message.proofs.Parting.{in_both}
use Rattle.point_ops.specs.PointOps.{left, point_msgs}
use Rattle.range_set.specs.Disjoint.{range_msgs}
use Rattle.pending.proofs.Cutting.{points_lie_before}
use Rattle.pending.proofs.Runs.{left_keys_before}
use Rattle.pending.proofs.sorted_msgs.SortedMsgs.lies_before.Goals as goal

pub returns-then-end_by : goal.returns-then-end_by
returns-then-end_by g c h =
    let p = c.args.pivot.now in
    let rs = c.self.inside.ranges in
    let es = c.self.inside.points in
    let n = c.self.inside.consumed in
    let before : AreBefore p (left n es) = left_keys_before p n es (c.end_before.ensures.yes h) in
    subst (λ t. LieIn [] (Some p) t) c.self.view_is (in_both [] (Some p) (range_msgs rs) (point_msgs (left n es)) (c.end_by.ensures.yes c.if-end_by.true) (points_lie_before p (left n es) before))
