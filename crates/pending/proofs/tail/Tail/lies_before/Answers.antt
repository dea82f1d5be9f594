use Rattle.std.proofs.Common.{◌≡◌, ◌++◌, ap, sym, ◌∙◌, subst, Some, true}
use Rattle.message.specs.Cuts.{LieIn}
use Rattle.message.proofs.Parting.{in_both}
use Rattle.pending.proofs.tail.Tail.lies_before.Goals as goal
use Rattle.pending.proofs.tail.Tail.lies_before.Goals.{then-lie_in, else-lie_in}

pub returns : goal.returns
returns g c h =
    let first = c.new-first.result in
    let end = Some c.args.pivot.now in
    let xs = c.as_slices.result.0.now in
    let ys = c.as_slices.result.1.now in
    let whole : xs ++ ys ≡ c.args.self.now.0 = c.as_slices.ensures.items ∙ ap (λ t. t.0) c.self.view_is in
    elim c.if-lie_in.branch [
      | then-lie_in w ↦ (let far : w.lie_in-then-lie_in.result ≡ true = sym w.result-is ∙ h in subst (λ k. LieIn k end c.args.self.now.0) c.new-first.ensures (subst (λ ms. LieIn first end ms) whole (in_both first end xs ys (c.lie_in.ensures w.if-lie_in.true) (w.lie_in-then-lie_in.ensures far))))
      | else-lie_in w ↦ absurd (let e = w.result-is in let f = w.if-lie_in.false in cc)
    ]
