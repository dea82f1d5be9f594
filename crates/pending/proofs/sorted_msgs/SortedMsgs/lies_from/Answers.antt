use Rattle.std.proofs.Common.{None, subst}
use Rattle.cow_map.specs.Places.{AreFrom}
use Rattle.message.specs.Cuts.{LieIn}
use Rattle.message.proofs.Parting.{in_both}
use Rattle.point_ops.specs.PointOps.{left, point_msgs}
use Rattle.range_set.specs.Disjoint.{range_msgs}
use Rattle.pending.proofs.Cutting.{points_lie_from}
use Rattle.pending.proofs.Runs.{left_keys_from}
use Rattle.pending.proofs.sorted_msgs.SortedMsgs.lies_from.Goals as goal

pub returns-then-begin_from : goal.returns-then-begin_from
returns-then-begin_from g c h =
    let p = c.args.pivot.now in
    let rs = c.self.inside.ranges in
    let es = c.self.inside.points in
    let n = c.self.inside.consumed in
    let from : AreFrom p (left n es) = left_keys_from p n es (c.begin_from-then-begin_from.ensures.yes h) in
    subst (λ t. LieIn p None t) c.self.view_is (in_both p None (range_msgs rs) (point_msgs (left n es)) (c.begin_from.ensures.yes c.if-begin_from.true) (points_lie_from p (left n es) from))
