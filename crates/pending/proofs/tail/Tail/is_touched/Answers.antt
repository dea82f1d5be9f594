use Rattle.std.proofs.Common.{◌≡◌, ◌++◌, ◌||◌, ap, sym, ◌∙◌}
use Rattle.message.specs.Effects.{any_touches}
use Rattle.message.proofs.Condensing.{touches_append}
use Rattle.pending.proofs.tail.Tail.is_touched.Goals as goal

pub returns-then-is_touched : goal.returns-then-is_touched
returns-then-is_touched g c =
    let k = c.args.key.now in
    let xs = c.as_slices.result.0.now in
    let ys = c.as_slices.result.1.now in
    let whole : xs ++ ys ≡ c.args.self.now.0 = c.as_slices.ensures.items ∙ ap (λ p. p.0) c.self.view_is in
    let parts : any_touches c.args.self.now.0 k ≡ (any_touches xs k || any_touches ys k) = ap (λ ms. any_touches ms k) (sym whole) ∙ touches_append xs ys k in
    c.if-is_touched.true ∙ sym (parts ∙ ap (λ b. b || any_touches ys k) (sym c.is_touched.ensures ∙ c.if-is_touched.true))

pub returns-else-is_touched : goal.returns-else-is_touched
returns-else-is_touched g c =
    let k = c.args.key.now in
    let xs = c.as_slices.result.0.now in
    let ys = c.as_slices.result.1.now in
    let whole : xs ++ ys ≡ c.args.self.now.0 = c.as_slices.ensures.items ∙ ap (λ p. p.0) c.self.view_is in
    let parts : any_touches c.args.self.now.0 k ≡ (any_touches xs k || any_touches ys k) = ap (λ ms. any_touches ms k) (sym whole) ∙ touches_append xs ys k in
    c.is_touched-else-is_touched.ensures ∙ sym (parts ∙ ap (λ b. b || any_touches ys k) (sym c.is_touched.ensures ∙ c.if-is_touched.false))
