use Rattle.std.proofs.Common.{◌≡◌, ap, sym, ◌∙◌, drop, Some, None}
use Rattle.std.proofs.lemmas.Result.{IfOk-weaker}
use Rattle.std.specs.Option.{option_map}
use Rattle.cow_map.specs.Places.{at_key}
use Rattle.message.specs.Effects.{effects}
use Rattle.point_ops.specs.Changes.{run_effect}
use Rattle.point_ops.specs.PointOps.{left}
use Rattle.pending.proofs.Meaning.{found_at}
use Rattle.pending.proofs.Runs.{left_absent, left_rises}
use Rattle.pending.proofs.sorted_msgs.SortedMsgs.value_after.Goals as goal

pub returns-in-Some : goal.returns-in-Some
returns-in-Some g c =
    let means = g.U.Update.means in
    let k = c.args.key.now in
    let es = c.self.inside.points in
    let n = c.self.inside.consumed in
    let cs = drop c.consumed_at.result c.in-Some.run'.now in
    let at : Some cs ≡ at_key k (left n es) = sym (c.consumed_at.ensures.left ∙ ap (option_map (λ ds. drop c.consumed_at.result ds)) (sym c.in-Some.ensures)) in
    let found = found_at means c.self.inside.ranges (left n es) c.args.self.now k c.is_covered.result (Some cs) (left_rises n es c.assert_invariant.ensures.rises) c.self.view_is c.is_covered.ensures at c.args.old in
    IfOk-weaker c.apply.result (λ v. v ≡ run_effect means cs c.unless-below.result) (λ v. v ≡ effects means c.args.self.now k c.args.old)
    (λ v h. h ∙ ap (λ x. run_effect means cs x) c.unless-below.ensures ∙ found)
    c.apply.ensures

pub returns-in-None : goal.returns-in-None
returns-in-None g c =
    let es = c.self.inside.points in
    let n = c.self.inside.consumed in
    c.unless-below.ensures ∙ found_at g.U.Update.means c.self.inside.ranges (left n es) c.args.self.now c.args.key.now c.is_covered.result None (left_rises n es c.assert_invariant.ensures.rises) c.self.view_is c.is_covered.ensures (left_absent n es c.args.key.now c.in-None.ensures) c.args.old
