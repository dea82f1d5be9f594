use Rattle.std.proofs.Common.{◌≡◌, ◌∙◌, ap, sym, subst, true, false}
use Rattle.std.specs.Prelude.{Contains}
use Rattle.std.specs.Option.{option_copied}
use Rattle.pathkey.specs.Keys.{next_key}
use Rattle.message.specs.Ranges.{earlier_end}
use Rattle.message.specs.Stretches.{all_ends, is_key, IsStretch}
use Rattle.message.proofs.SortedStretches.{stretch_then}
use Rattle.point_ops.specs.PointOps.{first_from, left, point_msgs}
use Rattle.range_set.specs.Disjoint.{range_msgs}
use Rattle.point_ops.proofs.Parting.{runs_left}
use Rattle.pending.proofs.Runs.{left_keys, left_rises}
use Rattle.pending.proofs.Stretching.{first_from_keys, sorted_next, points_from}
use Rattle.pending.proofs.sorted_msgs.SortedMsgs.segment_end.Goals as goal

pub returns-then-is_key : goal.returns-then-is_key
returns-then-is_key g c =
    let k = c.args.from.now in
    let es = c.self.inside.points in
    let n = c.self.inside.consumed in
    let next = c.first_from-next.ensures ∙ sym (first_from_keys k (left n es) es (left_keys n es)) in
    let here : is_key (first_from k (left n es)) k ≡ true = ap (λ o. is_key o k) (sym next) ∙ sym c.is_key.ensures ∙ c.if-is_key.true in
    subst (λ ms. Contains (all_ends ms) (next_key k)) c.self.view_is (sorted_next c.self.inside.ranges k (left n es) (runs_left n es c.self.invariant.some c.assert_invariant.ensures.runs) here)

pub returns : goal.returns
returns g c =
    let from = c.args.from.now in
    let end = option_copied c.args.end in
    let es = c.self.inside.points in
    let n = c.self.inside.consumed in
    let fs = left n es in
    let stop = option_copied c.segment_end-stop.result in
    let next = c.first_from-next.ensures ∙ sym (first_from_keys from fs es (left_keys n es)) in
    let other : is_key (first_from from fs) from ≡ false = ap (λ o. is_key o from) (sym next) ∙ sym c.is_key.ensures ∙ c.if-is_key.false in
    let points : IsStretch (point_msgs fs) from stop (earlier_end stop (first_from from fs)) = points_from from stop fs (left_rises n es c.assert_invariant.ensures.rises) (runs_left n es c.self.invariant.some c.assert_invariant.ensures.runs) other c.segment_end-stop.ensures.after in
    let is = sym (c.earlier.ensures ∙ ap (earlier_end stop) next) in
    subst (λ ms. IsStretch ms from end (option_copied c.earlier.result)) c.self.view_is (stretch_then (range_msgs c.self.inside.ranges) (point_msgs fs) from end stop (option_copied c.earlier.result) c.segment_end-stop.ensures (subst (IsStretch (point_msgs fs) from stop) is points))
