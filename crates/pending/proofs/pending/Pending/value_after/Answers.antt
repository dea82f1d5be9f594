use Rattle.std.proofs.Common.{◌≡◌, ap}
use Rattle.std.proofs.lemmas.Result.{IfOk-weaker}
use Rattle.message.specs.Effects.{effects}
use Rattle.message.proofs.Condensing.{value_behind}
use Rattle.pending.proofs.pending.Pending.value_after.Goals as goal

pub returns : goal.returns
returns g c =
    let means = g.U.Update.means in
    let k = c.args.key.now in
    let s = c.self.inside.sorted in
    let f = c.self.inside.tail_msgs.0 in
    IfOk-weaker c.apply_msgs.result (λ v. v ≡ effects means f k c.in_ok-value.value) (λ v. v ≡ effects means c.args.self.now.0 k c.args.old)
    (λ v h. value_behind means s f c.args.self.now.0 k c.args.old c.in_ok-value.value v (ap (λ p. p.0) c.self.view_is) c.in_ok-value.ensures h)
    c.apply_msgs.ensures
