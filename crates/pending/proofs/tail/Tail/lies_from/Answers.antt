use Rattle.std.proofs.Common.{◌≡◌, ◌++◌, ap, ◌∙◌, subst, None}
use Rattle.message.specs.Cuts.{LieIn}
use Rattle.message.proofs.Parting.{in_both}
use Rattle.pending.proofs.tail.Tail.lies_from.Goals as goal

pub returns-then-lie_in : goal.returns-then-lie_in
returns-then-lie_in g c h =
    let p = c.args.pivot.now in
    let xs = c.as_slices.result.0.now in
    let ys = c.as_slices.result.1.now in
    let whole : xs ++ ys ≡ c.args.self.now.0 = c.as_slices.ensures.items ∙ ap (λ t. t.0) c.self.view_is in
    subst (λ ms. LieIn p None ms) whole (in_both p None xs ys (c.lie_in.ensures c.if-lie_in.true) (c.lie_in-then-lie_in.ensures h))
