use Rattle.std.proofs.Common.{◌≡◌, [], ap, sym, ◌∙◌, subst, length, take, arith}
use Rattle.std.proofs.lemmas.List.{nil_from_length}
use Rattle.message.specs.Effects.{Takes}
use Rattle.point_ops.specs.PointOps.{left, point_count}
use Rattle.pending.specs.SortedMsgs.{sorted_msgs}
use Rattle.pending.proofs.Coming.{first_alike, first_few, first_fewer, first_left, first_taken}
use Rattle.pending.proofs.Meaning.{length-sorted}
use Rattle.pending.proofs.Runs.{left_whole, none_left}
use Rattle.pending.proofs.sorted_msgs.SortedMsgs.take_first.Goals as goal

pub take_first-requires : goal.take_first-requires
take_first-requires g c =
    let es = c.make_whole.new.points in
    let rs = c.self.inside.ranges in
    let old = left c.self.inside.consumed c.self.inside.points in
    let same : es ≡ old = sym (left_whole c.make_whole.new.consumed es c.in-Ok.ensures.whole) ∙ c.make_whole.ensures.same in
    omega (arith, ap (λ t. point_count t) same, length-sorted rs old, ap length c.self.view_is, (c.accepts.ensures c.if-not-accepts.false).1)

pub invariant_of-self-2 : goal.invariant_of-self-2
invariant_of-self-2 g c =
    let es = c.make_whole.new.points in
    let fs = c.take_first.new.self in
    let rs = c.self.inside.ranges in
    let old = left c.self.inside.consumed c.self.inside.points in
    let zero = c.in-Ok.ensures.whole in
    let same : es ≡ old = sym (left_whole c.make_whole.new.consumed es zero) ∙ c.make_whole.ensures.same in
    let moved = c.in_ok-came.ensures.moved.adds in
    record {
      some = none_left c.make_whole.new.consumed fs zero c.assert_invariant.ensures.runs;
      small = omega (arith, moved.bound, moved.few, ap (λ t. point_count t) same, ap (λ t. point_count t) (left_whole c.make_whole.new.consumed fs zero), length-sorted rs old, ap length c.self.view_is, (c.accepts.ensures c.if-not-accepts.false).1);
    }

pub invariant_of-from-2 : goal.invariant_of-from-2
invariant_of-from-2 g c =
    let from = c.make_whole-2.new.points in
    let rest = c.take_first.new.from in
    let gs = c.from.inside.ranges in
    let zero = c.in-Ok-make_whole.ensures.whole in
    let same : from ≡ left c.from.inside.consumed c.from.inside.points = sym (left_whole c.make_whole-2.new.consumed from zero) ∙ c.make_whole-2.ensures.same in
    let none : gs ≡ [] = nil_from_length gs (omega (arith, c.len.ensures, c.if-len-gt0.false)) in
    let v = ap (λ t. sorted_msgs gs t) same ∙ c.from.view_is in
    let fewer = first_fewer g.U.Update.means gs c.self.inside.ranges from rest c.make_whole.new.points c.take_first.new.self c.in_ok-came.came c.args.most c.args.from.now none v c.in_ok-came.ensures.moved.adds in
    record {
      some = none_left c.make_whole-2.new.consumed rest zero c.assert_invariant-2.ensures.runs;
      small = omega (arith, fewer, ap (λ t. point_count t) same, ap (λ t. point_count t) (left_whole c.make_whole-2.new.consumed rest zero), c.from.invariant.small);
    }

pub returns-clause-takes : goal.returns-clause-takes
returns-clause-takes g c =
    let means = g.U.Update.means in
    let es = c.make_whole.new.points in
    let fs = c.take_first.new.self in
    let rs = c.self.inside.ranges in
    let from = c.make_whole-2.new.points in
    let gs = c.from.inside.ranges in
    let zero = c.in-Ok.ensures.whole in
    let n = c.in_ok-came.came in
    let msgs = c.args.from.now in
    let none : gs ≡ [] = nil_from_length gs (omega (arith, c.len.ensures, c.if-len-gt0.false)) in
    let v = ap (λ t. sorted_msgs gs t) (sym (left_whole c.make_whole-2.new.consumed from c.in-Ok-make_whole.ensures.whole) ∙ c.make_whole-2.ensures.same) ∙ c.from.view_is in
    let old : sorted_msgs rs es ≡ c.args.self.now = ap (λ t. sorted_msgs rs t) (sym (left_whole c.make_whole.new.consumed es zero) ∙ c.make_whole.ensures.same) ∙ c.self.view_is in
    let taken : Takes means (sorted_msgs rs es) (take n msgs) (sorted_msgs rs fs) = first_taken means gs rs from c.take_first.new.from es fs n c.args.most msgs none v c.in_ok-came.ensures.moved.adds c.in-Ok.ensures.rises c.assert_invariant.ensures.rises c.in-Ok.ensures.runs in
    subst (λ t. Takes means c.args.self.now (take n msgs) (sorted_msgs rs t)) (sym (left_whole c.make_whole.new.consumed fs zero)) (subst (λ t. Takes means t (take n msgs) (sorted_msgs rs fs)) old taken)

pub returns-clause-left : goal.returns-clause-left
returns-clause-left g c =
    let from = c.make_whole-2.new.points in
    let rest = c.take_first.new.from in
    let gs = c.from.inside.ranges in
    let zero = c.in-Ok-make_whole.ensures.whole in
    let none : gs ≡ [] = nil_from_length gs (omega (arith, c.len.ensures, c.if-len-gt0.false)) in
    let v = ap (λ t. sorted_msgs gs t) (sym (left_whole c.make_whole-2.new.consumed from zero) ∙ c.make_whole-2.ensures.same) ∙ c.from.view_is in
    ap (λ t. sorted_msgs gs t) (left_whole c.make_whole-2.new.consumed rest zero) ∙ first_left g.U.Update.means gs c.self.inside.ranges from rest c.make_whole.new.points c.take_first.new.self c.in_ok-came.came c.args.most c.args.from.now none v c.in_ok-came.ensures.moved.adds

pub returns-clause-within : goal.returns-clause-within
returns-clause-within g c =
    let from = c.make_whole-2.new.points in
    let gs = c.from.inside.ranges in
    let none : gs ≡ [] = nil_from_length gs (omega (arith, c.len.ensures, c.if-len-gt0.false)) in
    let v = ap (λ t. sorted_msgs gs t) (sym (left_whole c.make_whole-2.new.consumed from c.in-Ok-make_whole.ensures.whole) ∙ c.make_whole-2.ensures.same) ∙ c.from.view_is in
    let moved = c.in_ok-came.ensures.moved.adds in
    (moved.some, moved.few, first_few g.U.Update.means gs c.self.inside.ranges from c.take_first.new.from c.make_whole.new.points c.take_first.new.self c.in_ok-came.came c.args.most c.args.from.now none v moved)

pub returns-clause-alike : goal.returns-clause-alike
returns-clause-alike g c =
    let from = c.make_whole-2.new.points in
    let gs = c.from.inside.ranges in
    let none : gs ≡ [] = nil_from_length gs (omega (arith, c.len.ensures, c.if-len-gt0.false)) in
    let v = ap (λ t. sorted_msgs gs t) (sym (left_whole c.make_whole-2.new.consumed from c.in-Ok-make_whole.ensures.whole) ∙ c.make_whole-2.ensures.same) ∙ c.from.view_is in
    first_alike g.U.Update.means gs c.self.inside.ranges from c.take_first.new.from c.make_whole.new.points c.take_first.new.self c.in_ok-came.came c.args.most c.args.from.now none v c.in_ok-came.ensures.moved.adds
