use Rattle.std.proofs.Common.{[], ap, ◌∙◌, Some, None, arith}
use Rattle.message.proofs.Cutting.{both_parts}
use Rattle.point_ops.specs.PointOps.{left, point_count, point_msgs}
use Rattle.point_ops.proofs.Counting.{none_consumed, some_left}
use Rattle.point_ops.proofs.Parting.{counted_parts, runs_back, runs_front}
use Rattle.range_set.specs.Disjoint.{range_msgs}
use Rattle.pending.specs.SortedMsgs.{sorted_msgs}
use Rattle.pending.proofs.Cutting.{points_back, points_front, ranges_few}
use Rattle.pending.proofs.sorted_msgs.SortedMsgs.split_at.Goals as goal

pub invariant_of-front : goal.invariant_of-front
invariant_of-front g c =
    let all = c.in_ok-points.points in
    let es = c.split_off.new.self in
    let fs = c.in_ok-later.later in
    record {
      some = some_left es (runs_front all es fs c.in_ok-later.ensures.parts c.in_ok-points.ensures.runs);
      small = omega (arith, c.self.invariant.small, ranges_few g.row.U.Denot g.row.U-Value.Denot [] (Some c.args.pivot.now) c.self.inside.ranges c.in_ok-ranges.ranges c.in_ok-ranges.ensures.front, counted_parts all es fs c.in_ok-later.ensures.parts, ap (λ t. point_count t) c.in_ok-points.ensures.same, ap (λ t. point_count t) (none_consumed es));
    }

pub invariant_of-back : goal.invariant_of-back
invariant_of-back g c =
    let all = c.in_ok-points.points in
    let es = c.split_off.new.self in
    let fs = c.in_ok-later.later in
    record {
      some = some_left fs (runs_back all es fs c.in_ok-later.ensures.parts c.in_ok-points.ensures.runs);
      small = omega (arith, c.self.invariant.small, ranges_few g.row.U.Denot g.row.U-Value.Denot c.args.pivot.now None c.self.inside.ranges c.in_ok-ranges.behind c.in_ok-ranges.ensures.back, counted_parts all es fs c.in_ok-later.ensures.parts, ap (λ t. point_count t) c.in_ok-points.ensures.same, ap (λ t. point_count t) (none_consumed fs));
    }

pub returns-clause-front : goal.returns-clause-front
returns-clause-front g c =
    let rs = c.self.inside.ranges in
    let all = c.in_ok-points.points in
    let es = c.split_off.new.self in
    let p = c.args.pivot.now in
    let points = ap (λ t. point_msgs t) (none_consumed es) ∙ points_front p all es c.in_ok-later.later c.in_ok-later.ensures.parts c.in_ok-later.ensures.front c.in_ok-later.ensures.back in
    both_parts [] (Some p) (range_msgs rs) (point_msgs all) (range_msgs c.in_ok-ranges.ranges) (point_msgs (left 0 es)) c.args.self c.in_ok-ranges.ensures.front points (ap (λ t. sorted_msgs rs t) c.in_ok-points.ensures.same ∙ c.self.view_is)

pub returns-clause-back : goal.returns-clause-back
returns-clause-back g c =
    let rs = c.self.inside.ranges in
    let all = c.in_ok-points.points in
    let fs = c.in_ok-later.later in
    let p = c.args.pivot.now in
    let points = ap (λ t. point_msgs t) (none_consumed fs) ∙ points_back p all c.split_off.new.self fs c.in_ok-later.ensures.parts c.in_ok-later.ensures.front c.in_ok-later.ensures.back in
    both_parts p None (range_msgs rs) (point_msgs all) (range_msgs c.in_ok-ranges.behind) (point_msgs (left 0 fs)) c.args.self c.in_ok-ranges.ensures.back points (ap (λ t. sorted_msgs rs t) c.in_ok-points.ensures.same ∙ c.self.view_is)
