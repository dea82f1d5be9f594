use Rattle.std.proofs.Common.{◌≡◌, [], ap, sym, ◌∙◌, subst, arith, rules}
use Rattle.std.proofs.lemmas.List.{nil_from_length}
use Rattle.cow_map.specs.Places.{AreFrom}
use Rattle.message.specs.Cuts.{IsParted}
use Rattle.point_ops.specs.PointOps.{left, point_count, point_msgs}
use Rattle.point_ops.proofs.Parting.{counted_parts, runs_front}
use Rattle.pending.specs.SortedMsgs.{sorted_msgs}
use Rattle.pending.proofs.Cutting.{entries_parted}
use Rattle.point_ops.proofs.Counting.{none_consumed}
use Rattle.pending.proofs.Runs.{left_keys_from, left_whole, none_left}
use Rattle.pending.proofs.sorted_msgs.SortedMsgs.split_off.Goals as goal

pub invariant_of-self-2 : goal.invariant_of-self-2
invariant_of-self-2 g c =
    let all = c.make_whole.new.points in
    let es = c.split_off.new.self in
    let fs = c.in_ok-points.points in
    let zero = c.in_ok-make_whole.ensures.whole in
    let same = sym (left_whole c.make_whole.new.consumed all zero) ∙ c.make_whole.ensures.same in
    record {
      some = none_left c.make_whole.new.consumed es zero (runs_front all es fs c.in_ok-points.ensures.parts c.in_ok-make_whole.ensures.runs);
      small = omega (arith, c.self.invariant.small, counted_parts all es fs c.in_ok-points.ensures.parts, ap (λ t. point_count t) same, ap (λ t. point_count t) (left_whole c.make_whole.new.consumed es zero));
    }

pub returns-clause-parted : goal.returns-clause-parted
returns-clause-parted g c =
    let lo = c.args.lo.now in
    let p = c.args.pivot.now in
    let rs = c.self.inside.ranges in
    let old = c.self.inside.points in
    let all = c.make_whole.new.points in
    let es = c.split_off.new.self in
    let fs = c.in_ok-points.points in
    let none : rs ≡ [] = nil_from_length rs (omega (arith, c.len.ensures, c.if-len-gt0.false)) in
    let zero = c.in_ok-make_whole.ensures.whole in
    let same : all ≡ left c.self.inside.consumed old = sym (left_whole c.make_whole.new.consumed all zero) ∙ c.make_whole.ensures.same in
    let from : AreFrom lo all = subst (λ t. AreFrom lo t) (sym same) (left_keys_from lo c.self.inside.consumed old (c.begin_from.ensures.yes (search rules))) in
    let parted : IsParted lo p (point_msgs all) (point_msgs es) (point_msgs fs) = entries_parted lo p all es fs c.in_ok-points.ensures.parts from c.in_ok-points.ensures.front c.in_ok-points.ensures.back in
    let whole : point_msgs all ≡ c.args.self.now = ap (λ t. point_msgs t) same ∙ sym (ap (λ t. sorted_msgs t (left c.self.inside.consumed old)) none) ∙ c.self.view_is in
    let front : point_msgs es ≡ sorted_msgs rs (left c.make_whole.new.consumed es) = sym (ap (λ t. sorted_msgs t (left c.make_whole.new.consumed es)) none ∙ ap (λ t. point_msgs t) (left_whole c.make_whole.new.consumed es zero)) in
    let back : point_msgs fs ≡ sorted_msgs c.new.result (left 0 fs) = sym (ap (λ t. sorted_msgs t (left 0 fs)) c.new.ensures ∙ ap (λ t. point_msgs t) (none_consumed fs)) in
    subst (λ t. IsParted lo p c.args.self.now (sorted_msgs rs (left c.make_whole.new.consumed es)) t) back (subst (λ t. IsParted lo p c.args.self.now t (point_msgs fs)) front (subst (λ t. IsParted lo p t (point_msgs es) (point_msgs fs)) whole parted))
