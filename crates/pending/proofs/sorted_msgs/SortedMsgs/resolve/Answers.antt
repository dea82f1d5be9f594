use Rattle.std.proofs.Common.{◌≡◌, ◌∙◌, sym, ap, cond, drop, Some, None, true}
use Rattle.std.proofs.lemmas.Result.{IfOk-weaker}
use Rattle.std.specs.Option.{option_map}
use Rattle.cow_map.specs.Places.{at_key}
use Rattle.message.specs.Effects.{any_touches}
use Rattle.message.specs.Resolution.{IsResolved}
use Rattle.message.specs.declared.resolution.Resolution.TheVariants.{NeedsBase}
use Rattle.point_ops.proofs.Parting.{runs_left}
use Rattle.point_ops.specs.Changes.{run_effect}
use Rattle.point_ops.specs.PointOps.{left}
use Rattle.point_ops.specs.KeyOps.{IsResolvedOf}
use Rattle.pending.proofs.Meaning.{found_at, resolved_some, resolved_none, touched_there, untouched_says}
use Rattle.pending.proofs.Runs.{left_absent, left_rises}
use Rattle.pending.proofs.sorted_msgs.SortedMsgs.resolve.Goals as goal

pub returns-in-Some-clause-resolved : goal.returns-in-Some-clause-resolved
returns-in-Some-clause-resolved g c =
    let means = g.U.Update.means in
    let k = c.args.key.now in
    let es = c.self.inside.points in
    let n = c.self.inside.consumed in
    let cs = drop c.consumed_at.result c.in-Some.run'.now in
    let at : Some cs ≡ at_key k (left n es) = sym (c.consumed_at.ensures.left ∙ ap (option_map (λ ds. drop c.consumed_at.result ds)) (sym c.in-Some.ensures)) in
    let b = c.is_covered-is_covered.result in
    IfOk-weaker c.resolve.result (IsResolvedOf (λ o. run_effect means cs (cond b None o))) (IsResolved means c.args.self.now k)
    (resolved_some means c.args.self.now k cs b (found_at means c.self.inside.ranges (left n es) c.args.self.now k b (Some cs) (left_rises n es c.assert_invariant.ensures.rises) c.self.view_is c.is_covered-is_covered.ensures at))
    c.resolve.ensures.resolved

pub returns-in-Some-clause-touched : goal.returns-in-Some-clause-touched
returns-in-Some-clause-touched g c =
    let k = c.args.key.now in
    let es = c.self.inside.points in
    let n = c.self.inside.consumed in
    let cs = drop c.consumed_at.result c.in-Some.run'.now in
    let at : Some cs ≡ at_key k (left n es) = sym (c.consumed_at.ensures.left ∙ ap (option_map (λ ds. drop c.consumed_at.result ds)) (sym c.in-Some.ensures)) in
    let touched = touched_there g.U.Update.means c.self.inside.ranges (left n es) c.args.self.now k cs (runs_left n es c.self.invariant.some c.assert_invariant.ensures.runs) c.self.view_is at in
    IfOk-weaker c.resolve.result _ (λ r. r ≡ NeedsBase → any_touches c.args.self.now k ≡ true) (λ r h e. touched) c.resolve.ensures.resolved

pub returns-in-None-clause-touched : goal.returns-in-None-clause-touched
returns-in-None-clause-touched g c = λ e. absurd (untouched_says g.U.Update.means c.is_covered-is_covered.result c.untouched.result c.untouched.ensures e)

pub returns-in-None-clause-resolved : goal.returns-in-None-clause-resolved
returns-in-None-clause-resolved g c =
    let es = c.self.inside.points in
    let n = c.self.inside.consumed in
    resolved_none g.U.Update.means c.self.inside.ranges (left n es) c.args.self.now c.args.key.now c.is_covered-is_covered.result c.untouched.result (left_rises n es c.assert_invariant.ensures.rises) c.self.view_is c.is_covered-is_covered.ensures (left_absent n es c.args.key.now c.in-None.ensures) c.untouched.ensures
