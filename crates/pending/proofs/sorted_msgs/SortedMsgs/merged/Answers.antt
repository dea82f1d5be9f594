use Rattle.std.proofs.Common.{ap, sym, ◌∙◌, subst, arith}
use Rattle.message.specs.Cuts.{IsJoined}
use Rattle.point_ops.specs.PointOps.{left, point_count}
use Rattle.point_ops.proofs.Counting.{none_consumed, some_left}
use Rattle.point_ops.proofs.Parting.{runs_joined}
use Rattle.pending.specs.SortedMsgs.{sorted_msgs}
use Rattle.pending.proofs.Cutting.{back_ranges, both_joined, few_both, front_ranges, points_rise}
use Rattle.pending.proofs.Meaning.{length-sorted}
use Rattle.pending.proofs.sorted_msgs.SortedMsgs.merged.Goals as goal

pub merged-requires-clause-before : goal.merged-requires-clause-before
merged-requires-clause-before g c = front_ranges c.args.pivot.now c.self.inside.ranges c.newer.inside.ranges (left c.self.inside.consumed c.self.inside.points) (left c.newer.inside.consumed c.newer.inside.points) c.args.self c.args.newer c.self.view_is c.newer.view_is c.requires.before c.requires.from

pub merged-requires-clause-from : goal.merged-requires-clause-from
merged-requires-clause-from g c = back_ranges c.args.pivot.now c.self.inside.ranges c.newer.inside.ranges (left c.self.inside.consumed c.self.inside.points) (left c.newer.inside.consumed c.newer.inside.points) c.args.self c.args.newer c.self.view_is c.newer.view_is c.requires.before c.requires.from

pub merged-requires-2-clause-rises : goal.merged-requires-2-clause-rises
merged-requires-2-clause-rises g c =
    let front = ap (λ t. sorted_msgs c.self.inside.ranges t) c.in_ok-points.ensures.same ∙ c.self.view_is in
    let back = ap (λ t. sorted_msgs c.newer.inside.ranges t) c.in_ok-later.ensures.same ∙ c.newer.view_is in
    points_rise c.args.pivot.now c.self.inside.ranges c.newer.inside.ranges c.in_ok-points.points c.in_ok-later.later c.args.self c.args.newer front back c.requires.before c.requires.from c.in_ok-points.ensures.runs c.in_ok-later.ensures.runs

pub merged-requires-2-clause-small : goal.merged-requires-2-clause-small
merged-requires-2-clause-small g c =
    let front = ap (λ t. sorted_msgs c.self.inside.ranges t) c.in_ok-points.ensures.same ∙ c.self.view_is in
    let back = ap (λ t. sorted_msgs c.newer.inside.ranges t) c.in_ok-later.ensures.same ∙ c.newer.view_is in
    let few = few_both c.args.pivot.now c.self.inside.ranges c.newer.inside.ranges c.in_ok-points.points c.in_ok-later.later c.args.self c.args.newer front back c.requires.before c.requires.from in
    omega (arith, few, c.len.ensures.len, c.len-2.ensures.len, c.if-len-gt-MOST.false)

pub invariant_of-result : goal.invariant_of-result
invariant_of-result g c =
    let front = ap (λ t. sorted_msgs c.self.inside.ranges t) c.in_ok-points.ensures.same ∙ c.self.view_is in
    let back = ap (λ t. sorted_msgs c.newer.inside.ranges t) c.in_ok-later.ensures.same ∙ c.newer.view_is in
    let gs = c.in_ok-ranges.ranges in
    let hs = c.in_ok-all.all in
    let both = both_joined c.args.pivot.now c.self.inside.ranges c.newer.inside.ranges c.in_ok-points.points c.in_ok-later.later c.args.self c.args.newer front back c.requires.before c.requires.from gs hs c.in_ok-ranges.ensures c.in_ok-all.ensures in
    record {
      some = some_left hs (runs_joined hs c.in_ok-points.points c.in_ok-later.later c.in_ok-all.ensures c.in_ok-points.ensures.runs c.in_ok-later.ensures.runs);
      small = omega (arith, both.bound, length-sorted gs hs, ap (λ t. point_count t) (none_consumed hs), c.len.ensures.len, c.len-2.ensures.len, c.if-len-gt-MOST.false);
    }

pub returns : goal.returns
returns g c =
    let front = ap (λ t. sorted_msgs c.self.inside.ranges t) c.in_ok-points.ensures.same ∙ c.self.view_is in
    let back = ap (λ t. sorted_msgs c.newer.inside.ranges t) c.in_ok-later.ensures.same ∙ c.newer.view_is in
    let gs = c.in_ok-ranges.ranges in
    let hs = c.in_ok-all.all in
    let both = both_joined c.args.pivot.now c.self.inside.ranges c.newer.inside.ranges c.in_ok-points.points c.in_ok-later.later c.args.self c.args.newer front back c.requires.before c.requires.from gs hs c.in_ok-ranges.ensures c.in_ok-all.ensures in
    subst (λ t. IsJoined c.args.pivot.now c.args.self c.args.newer (sorted_msgs gs t)) (sym (none_consumed hs)) both
