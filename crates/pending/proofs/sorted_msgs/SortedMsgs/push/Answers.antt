use Rattle.std.proofs.Common.{◌≡◌, refl, ap, sym, ◌∙◌, length, arith}
use Rattle.point_ops.specs.PointOps.{left, point_count}
use Rattle.pending.specs.SortedMsgs.{sorted_msgs}
use Rattle.pending.proofs.Coming.{inserted_few, inserts_none}
use Rattle.pending.proofs.Meaning.{length-sorted}
use Rattle.pending.proofs.Runs.{left_whole, none_left}
use Rattle.pending.proofs.sorted_msgs.SortedMsgs.push.Goals as goal

pub returns-then-len-ge-MOST-clause-refused : goal.returns-then-len-ge-MOST-clause-refused
returns-then-len-ge-MOST-clause-refused g c = inserts_none g.U.Update.means c.args.msg c.args.self.now c.args.self.now refl

pub returns-in_default-clause-refused : goal.returns-in_default-clause-refused
returns-in_default-clause-refused g c = inserts_none g.U.Update.means c.args.msg c.args.self.now _ (ap (λ es. sorted_msgs c.self.inside.ranges es) c.make_whole.ensures.same ∙ c.self.view_is)

pub insert-answer-requires : goal.insert-answer-requires
insert-answer-requires g c =
    let rs = c.self.inside.ranges in
    let es = c.make_whole.new.points in
    let same : es ≡ left c.self.inside.consumed c.self.inside.points = sym (left_whole c.make_whole.new.consumed es c.in-Ok.ensures.whole) ∙ c.make_whole.ensures.same in
    omega (arith, length-sorted rs (left c.self.inside.consumed c.self.inside.points), ap length c.self.view_is, ap (λ t. point_count t) same, c.len.ensures.len, c.if-len-ge-MOST.false)

pub invariant_of-self-2 : goal.invariant_of-self-2
invariant_of-self-2 g c =
    let rs = c.self.inside.ranges in
    let es = c.make_whole.new.points in
    let same : es ≡ left c.self.inside.consumed c.self.inside.points = sym (left_whole c.make_whole.new.consumed es c.in-Ok.ensures.whole) ∙ c.make_whole.ensures.same in
    let few = inserted_few g.U.Update.means c.insert-answer.result c.args.msg (sorted_msgs rs es) (sorted_msgs c.insert-answer.new.ranges c.insert-answer.new.points) c.insert-answer.ensures.takes c.insert-answer.ensures.refused in
    record {
      some = none_left c.make_whole.new.consumed c.insert-answer.new.points c.in-Ok.ensures.whole c.assert_invariant.ensures.runs;
      small = omega (arith, few, length-sorted rs es, length-sorted c.insert-answer.new.ranges c.insert-answer.new.points, ap (λ t. point_count t) (left_whole c.make_whole.new.consumed c.insert-answer.new.points c.in-Ok.ensures.whole), length-sorted rs (left c.self.inside.consumed c.self.inside.points), ap length c.self.view_is, ap (λ t. point_count t) same, c.len.ensures.len, c.if-len-ge-MOST.false);
    }
