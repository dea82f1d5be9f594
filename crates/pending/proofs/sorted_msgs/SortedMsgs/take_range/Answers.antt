use Rattle.std.proofs.Common.{◌≡◌, ap, sym, ◌∙◌, subst, length, take, false, arith}
use Rattle.std.specs.List.{list_any}
use Rattle.std.specs.Option.{option_copied}
use Rattle.pathkey.specs.Keys.{is_in}
use Rattle.message.specs.Effects.{Takes}
use Rattle.point_ops.specs.PointOps.{left}
use Rattle.point_ops.proofs.Parting.{kept_all, runs_left}
use Rattle.pending.specs.SortedMsgs.{sorted_msgs}
use Rattle.pending.proofs.Coming.{first_is, left_by, range_taken}
use Rattle.pending.proofs.Meaning.{length-sorted}
use Rattle.pending.proofs.Runs.{left_any, left_rises}
use Rattle.pending.proofs.sorted_msgs.SortedMsgs.take_range.Goals as goal

pub invariant_of-self-2 : goal.invariant_of-self-2
invariant_of-self-2 g c = record {
  some = c.self.invariant.some;
  small = omega (arith, c.in-Ok.ensures.taken.bound, c.requires, length-sorted c.self.inside.ranges (left c.self.inside.consumed c.self.inside.points), ap length c.self.view_is);
}

pub returns-clause-takes : goal.returns-clause-takes
returns-clause-takes g c h =
    let means = g.U.Update.means in
    let gs = c.from.inside.ranges in
    let hs = c.take_first.new.from in
    let rs = c.self.inside.ranges in
    let ss = c.take_first.new.self in
    let n = c.self.inside.consumed in
    let es = c.self.inside.points in
    let t = c.in-Ok.ensures.taken in
    let range = first_is gs hs t.first c.in-Some.low.now c.in-Some.high.now (option_copied c.as_ref.result) t.parts c.in-Some.ensures c.as_ref.ensures.value in
    let none : false ≡ list_any (λ e. is_in (record { lo = t.first.0; hi = t.first.1 }) e.0) (left n es) = sym c.if-has_within.false ∙ c.has_within.ensures ∙ ap (λ r. list_any (λ e. is_in r e.0) es) range ∙ sym (left_any (record { lo = t.first.0; hi = t.first.1 }) n es) in
    let kept : left_by (record { lo = t.first.0; hi = t.first.1 }) (left n es) ≡ left n es = kept_all (λ e. is_in (record { lo = t.first.0; hi = t.first.1 }) e.0) (left n es) none in
    subst (λ old. Takes means old (take 1 c.args.from.now) (sorted_msgs ss (left n es))) c.self.view_is (range_taken means gs hs rs ss (left c.from.inside.consumed c.from.inside.points) c.args.from.now c.from.view_is t (left n es) (left_rises n es c.assert_invariant.ensures.rises) (runs_left n es c.self.invariant.some c.assert_invariant.ensures.runs) kept)
