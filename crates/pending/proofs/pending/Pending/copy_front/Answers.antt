use Rattle.std.proofs.Common.{rules, ◌≡◌, ◌≤◌, ◌<◌, ◌-◌, ◌++◌, ap, ◌∙◌, arith, take, length}
use Rattle.message.proofs.Condensing.{take_parts, take_at_most}
use Rattle.pending.proofs.pending.Pending.copy_front.Goals as goal

pub returns : goal.returns
returns g c =
    let n = c.args.count in
    let k = c.min-sorted.result in
    let xs = c.self.inside.sorted in
    let ys = c.self.inside.tail_msgs.0 in
    let most : k ≤ n = omega (arith, c.min-sorted.ensures) in
    let fits : k ≤ length xs = omega (arith, c.min-sorted.ensures, c.len.ensures.len) in
    let all : k < n → length xs ≤ k = λ h. omega (arith, h, c.min-sorted.ensures, c.len.ensures.len) in
    let both : c.copy_oldest.new.front.items ≡ take n xs ++ take (n - k) ys = search rules in
    both ∙ ap (λ t. t ++ take (n - k) ys) (take_at_most n k xs most fits all) ∙ take_parts n k xs ys most fits all ∙ ap (λ p. take n p.0) c.self.view_is
