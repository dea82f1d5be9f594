use Rattle.std.proofs.Common.{◌≡◌, ◌≤◌, ◌<◌, ◌-◌, ◌+◌, ap, sym, ◌∙◌, arith, drop, length}
use Rattle.message.specs.Effects.{range_count}
use Rattle.message.proofs.Condensing.{drop_parts}
use Rattle.message.proofs.Lists.{count_append}
use Rattle.pending.proofs.pending.Pending.range_deletes.Goals as goal

pub returns : goal.returns
returns g c =
    let n = c.args.consumed in
    let k = c.min-sorted.result in
    let xs = c.self.inside.sorted in
    let ys = c.self.inside.tail_msgs.0 in
    let most : k ≤ n = omega (arith, c.min-sorted.ensures) in
    let fits : k ≤ length xs = omega (arith, c.min-sorted.ensures, c.len.ensures.len) in
    let all : k < n → length xs ≤ k = λ h. omega (arith, h, c.min-sorted.ensures, c.len.ensures.len) in
    let both : c.range_deletes.result + c.count_ranges.result ≡ range_count (drop k xs) + range_count (drop (n - k) ys) = omega (arith, c.count_ranges.ensures.count, c.range_deletes.ensures.count) in
    both ∙ sym (count_append (drop k xs) (drop (n - k) ys)) ∙ ap (λ ms. range_count ms) (drop_parts n k xs ys most fits all) ∙ ap (λ p. range_count (drop n p.0)) c.self.view_is
