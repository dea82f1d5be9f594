use Rattle.std.proofs.Common.{◌≤◌, ◌<◌, ◌++◌, ap, ◌∙◌, arith, drop, length}
use Rattle.message.proofs.Condensing.{drop_parts}
use Rattle.pending.proofs.pending.Pending.drop_front.Goals as goal

pub returns-clause-messages : goal.returns-clause-messages
returns-clause-messages g c =
    let n = c.args.count in
    let k = c.min-sorted.result in
    let xs = c.self.inside.sorted in
    let ys = c.self.inside.tail_msgs.0 in
    let most : k ≤ n = omega (arith, c.min-sorted.ensures) in
    let fits : k ≤ length xs = omega (arith, c.min-sorted.ensures, c.len.ensures.len) in
    let all : k < n → length xs ≤ k = λ h. omega (arith, h, c.min-sorted.ensures, c.len.ensures.len) in
    ap (λ t. t ++ c.drop_oldest.new.self.0) c.drop_front.ensures ∙ ap (λ t. drop k xs ++ t) c.drop_oldest.ensures.messages ∙ drop_parts n k xs ys most fits all ∙ ap (λ p. drop n p.0) c.self.view_is
