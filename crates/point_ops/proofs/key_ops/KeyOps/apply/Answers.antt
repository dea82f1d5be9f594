use Rattle.std.proofs.Common.{◌≡◌, ◌∙◌, ap, sym, drop}
use Rattle.std.proofs.lemmas.Result.{IfOk-weaker}
use Rattle.point_ops.specs.Changes.{run_effect}
use Rattle.point_ops.specs.KeyOps.{changes_in, edits_effect}
use Rattle.point_ops.proofs.Updates.{effect_left}
use Rattle.point_ops.proofs.key_ops.KeyOps.apply.Goals as goal

pub returns-in-Edits : goal.returns-in-Edits
returns-in-Edits g c =
    let means = g.U.Update.means in
    let us = c.in-Edits.updates.items in
    let old = c.args.old in
    let is = sym c.self.view_is ∙ ap (λ w. changes_in w) c.in-Edits.is in
    IfOk-weaker c.apply_all.result (λ v. v ≡ edits_effect means c.later.result.now old) (λ v. v ≡ run_effect means (drop c.args.consumed c.args.self.now) old)
    (λ v h. h ∙ ap (λ t. edits_effect means t old) (c.later.ensures ∙ ap (λ t. drop c.args.consumed t) c.deref.ensures.value) ∙ sym (effect_left means c.args.consumed us old) ∙ ap (λ t. run_effect means (drop c.args.consumed t) old) (sym is))
    c.apply_all.ensures
