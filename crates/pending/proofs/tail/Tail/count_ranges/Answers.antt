use Rattle.std.proofs.Common.{◌≡◌, ◌≤◌, ◌<◌, ◌-◌, ◌+◌, ◌++◌, ap, sym, ◌∙◌, arith, drop, length}
use Rattle.std.proofs.lemmas.List.{take_rest}
use Rattle.message.specs.Effects.{range_count}
use Rattle.message.proofs.Condensing.{drop_parts}
use Rattle.message.proofs.Lists.{count_append}
use Rattle.pending.proofs.tail.Tail.count_ranges.Goals as goal

pub returns-clause-count : goal.returns-clause-count
returns-clause-count g c =
    let n = c.args.consumed in
    let k = c.min-first.result in
    let xs = c.as_slices.result.0.now in
    let ys = c.as_slices.result.1.now in
    let whole : xs ++ ys ≡ c.args.self.now.0 = c.as_slices.ensures.items ∙ ap (λ p. p.0) c.self.view_is in
    let most : k ≤ n = omega (arith, c.min-first.ensures) in
    let fits : k ≤ length xs = omega (arith, c.min-first.ensures) in
    let all : k < n → length xs ≤ k = λ h. omega (arith, h, c.min-first.ensures) in
    let one : c.ranges_in.result ≡ range_count (drop k xs) = c.ranges_in.ensures.count ∙ ap (λ ms. range_count ms) (take_rest xs k) in
    let two : c.ranges_in-2.result ≡ range_count (drop (n - k) ys) = c.ranges_in-2.ensures.count ∙ ap (λ ms. range_count ms) (take_rest ys (n - k)) in
    let both : c.ranges_in.result + c.ranges_in-2.result ≡ range_count (drop k xs) + range_count (drop (n - k) ys) = omega (arith, one, two) in
    both ∙ sym (count_append (drop k xs) (drop (n - k) ys)) ∙ ap (λ ms. range_count ms) (drop_parts n k xs ys most fits all) ∙ ap (λ ms. range_count (drop n ms)) whole
