use Rattle.std.proofs.Common.{◌≡◌, ap, length, sym, ◌∙◌, subst, arith}
use Rattle.point_ops.specs.PointOps.{left, point_count}
use Rattle.pending.specs.SortedMsgs.{sorted_msgs, IsFirstEdit}
use Rattle.pending.proofs.Coming.{first_of_points}
use Rattle.pending.proofs.Meaning.{length-sorted}
use Rattle.pending.proofs.Runs.{left_whole, none_left}
use Rattle.pending.proofs.sorted_msgs.SortedMsgs.push_first.Goals as goal

pub insert_first-answer-requires-clause-room : goal.insert_first-answer-requires-clause-room
insert_first-answer-requires-clause-room g c =
    let n = c.self.inside.consumed in
    let es = c.self.inside.points in
    let zero : n ≡ 0 = omega (arith, c.if-self-gt0.false) in
    omega (arith, length-sorted c.self.inside.ranges (left n es), ap (λ t. point_count t) (left_whole n es zero), ap length c.self.view_is, c.len.ensures.len, c.if-len-ge-MOST.false)

pub insert_first-answer-requires-clause-first : goal.insert_first-answer-requires-clause-first
insert_first-answer-requires-clause-first g c =
    let n = c.self.inside.consumed in
    let rs = c.self.inside.ranges in
    let es = c.self.inside.points in
    let zero : n ≡ 0 = omega (arith, c.if-self-gt0.false) in
    let old : c.args.self.now ≡ sorted_msgs rs es = sym c.self.view_is ∙ ap (λ t. sorted_msgs rs t) (left_whole n es zero) in
    first_of_points c.args.msg rs es (subst (λ t. IsFirstEdit c.args.msg t) old c.requires)

pub invariant_of-self : goal.invariant_of-self
invariant_of-self g c =
    let n = c.self.inside.consumed in
    let rs = c.self.inside.ranges in
    let es = c.self.inside.points in
    let fs = c.insert_first-answer.new.points in
    let zero : n ≡ 0 = omega (arith, c.if-self-gt0.false) in
    record {
      some = none_left n fs zero c.assert_invariant.ensures.runs;
      small = omega (arith, c.insert_first-answer.ensures.bound, length-sorted rs (left n es), ap (λ t. point_count t) (left_whole n es zero), ap (λ t. point_count t) (left_whole n fs zero), ap length c.self.view_is, c.len.ensures.len, c.if-len-ge-MOST.false);
    }
