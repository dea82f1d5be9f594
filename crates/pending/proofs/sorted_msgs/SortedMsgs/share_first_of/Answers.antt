use Rattle.std.proofs.Common.{◌≡◌, [], refl, ap, sym, ◌∙◌, subst, drop, length, take, arith}
use Rattle.message.specs.Effects.{Takes}
use Rattle.point_ops.specs.PointOps.{left, point_count, point_msgs}
use Rattle.pending.specs.OldestWalk.{first_len}
use Rattle.pending.specs.SortedMsgs.{sorted_msgs}
use Rattle.pending.proofs.Coming.{first_taken}
use Rattle.pending.proofs.Meaning.{length-sorted}
use Rattle.pending.proofs.Runs.{left_whole, none_left}
use Rattle.pending.proofs.sorted_msgs.SortedMsgs.share_first_of.Goals as goal

pub share_first_of-requires : goal.share_first_of-requires
share_first_of-requires g c =
    let es = c.make_whole.new.points in
    let rs = c.self.inside.ranges in
    let old = left c.self.inside.consumed c.self.inside.points in
    let same : es ≡ old = sym (left_whole c.make_whole.new.consumed es c.in-Ok.ensures.whole) ∙ c.make_whole.ensures.same in
    omega (arith, ap (λ t. point_count t) same, length-sorted rs old, ap length c.self.view_is, (c.accepts.ensures c.if-not-accepts.false).1)

pub invariant_of-self-2 : goal.invariant_of-self-2
invariant_of-self-2 g c =
    let es = c.make_whole.new.points in
    let fs = c.share_first_of.new.self in
    let rs = c.self.inside.ranges in
    let old = left c.self.inside.consumed c.self.inside.points in
    let zero = c.in-Ok.ensures.whole in
    let same : es ≡ old = sym (left_whole c.make_whole.new.consumed es zero) ∙ c.make_whole.ensures.same in
    let added = c.in_ok-came.ensures.added in
    record {
      some = none_left c.make_whole.new.consumed fs zero c.assert_invariant.ensures.runs;
      small = omega (arith, added.bound, added.few, ap (λ t. point_count t) same, ap (λ t. point_count t) (left_whole c.make_whole.new.consumed fs zero), length-sorted rs old, ap length c.self.view_is, (c.accepts.ensures c.if-not-accepts.false).1);
    }

pub returns-clause-takes : goal.returns-clause-takes
returns-clause-takes g c =
    let means = g.U.Update.means in
    let es = c.make_whole.new.points in
    let fs = c.share_first_of.new.self in
    let rs = c.self.inside.ranges in
    let from = c.walk.inside.rest in
    let zero = c.in-Ok.ensures.whole in
    let n = c.in_ok-came.came in
    let old : sorted_msgs rs es ≡ c.args.self.now = ap (λ t. sorted_msgs rs t) (sym (left_whole c.make_whole.new.consumed es zero) ∙ c.make_whole.ensures.same) ∙ c.self.view_is in
    let taken : Takes means (sorted_msgs rs es) (take n (point_msgs from)) (sorted_msgs rs fs) = first_taken means [] rs from (drop 1 from) es fs n c.args.most (point_msgs from) refl refl c.in_ok-came.ensures.added c.in-Ok.ensures.rises c.assert_invariant.ensures.rises c.in-Ok.ensures.runs in
    let there : Takes means (sorted_msgs rs es) (take n (point_msgs c.args.walk.now)) (sorted_msgs rs fs) = subst (λ t. Takes means (sorted_msgs rs es) (take n (point_msgs t)) (sorted_msgs rs fs)) c.walk.view_is taken in
    subst (λ t. Takes means c.args.self.now (take n (point_msgs c.args.walk.now)) (sorted_msgs rs t)) (sym (left_whole c.make_whole.new.consumed fs zero)) (subst (λ t. Takes means t (take n (point_msgs c.args.walk.now)) (sorted_msgs rs fs)) old there)

pub returns-clause-within : goal.returns-clause-within
returns-clause-within g c =
    let added = c.in_ok-came.ensures.added in
    (added.all ∙ sym (ap (λ t. first_len t) (sym c.walk.view_is ∙ added.parts)), added.some, added.few)
