use Rattle.std.proofs.Common.{◌≡◌, ◌++◌, ap, ◌∙◌}
use Rattle.std.proofs.lemmas.Result.{IfOk-weaker}
use Rattle.message.specs.Effects.{effects}
use Rattle.message.proofs.Condensing.{value_behind}
use Rattle.pending.proofs.tail.Tail.apply_msgs.Goals as goal

pub returns : goal.returns
returns g c =
    let means = g.U.Update.means in
    let k = c.args.key.now in
    let xs = c.as_slices.result.0.now in
    let ys = c.as_slices.result.1.now in
    let whole : xs ++ ys ≡ c.args.self.now.0 = c.as_slices.ensures.items ∙ ap (λ p. p.0) c.self.view_is in
    IfOk-weaker c.apply_msgs-2.result (λ v. v ≡ effects means ys k c.in_ok-value.value) (λ v. v ≡ effects means c.args.self.now.0 k c.args.old)
    (λ v h. value_behind means xs ys c.args.self.now.0 k c.args.old c.in_ok-value.value v whole c.in_ok-value.ensures h)
    c.apply_msgs-2.ensures
