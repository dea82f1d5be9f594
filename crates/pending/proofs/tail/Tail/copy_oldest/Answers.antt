use Rattle.std.proofs.Common.{rules, ◌≡◌, ◌≤◌, ◌<◌, ◌-◌, ◌++◌, ap, ◌∙◌, arith, append_assoc, take, length}
use Rattle.message.proofs.Condensing.{take_parts}
use Rattle.pending.proofs.tail.Tail.copy_oldest.Goals as goal

pub returns : goal.returns
returns g c =
    let n = c.args.count in
    let k = c.min-first.result in
    let xs = c.as_slices.result.0.now in
    let ys = c.as_slices.result.1.now in
    let whole : xs ++ ys ≡ c.args.self.now.0 = c.as_slices.ensures.items ∙ ap (λ p. p.0) c.self.view_is in
    let most : k ≤ n = omega (arith, c.min-first.ensures) in
    let fits : k ≤ length xs = omega (arith, c.min-first.ensures) in
    let all : k < n → length xs ≤ k = λ h. omega (arith, h, c.min-first.ensures) in
    let old = c.args.front.now.items in
    let one : c.copy_behind.new.front.items ≡ old ++ take k xs = search rules in
    let two : c.copy_behind-2.new.front.items ≡ c.copy_behind.new.front.items ++ take (n - k) ys = search rules in
    two ∙ ap (λ t. t ++ take (n - k) ys) one ∙ append_assoc old (take k xs) (take (n - k) ys) ∙ ap (λ t. old ++ t) (take_parts n k xs ys most fits all ∙ ap (λ ms. take n ms) whole)
