use Rattle.std.proofs.Common.{◌≡◌, ◌-◌, ◌++◌, [], ap, sym, ◌∙◌, arith, drop, length, Some, None}
use Rattle.std.proofs.lemmas.List.{append-nil, nil_from_length}
use Rattle.message.specs.Cuts.{pieces, IsParted}
use Rattle.message.proofs.Parting.{drop_least, front_left, back_left}
use Rattle.pending.proofs.pending.Pending.move_tail_off.Goals as goal

pub returns-clause-front : goal.returns-clause-front
returns-clause-front g c =
    let lo = c.args.lo.now in
    let p = c.args.pivot.now in
    let all = c.self.inside.sorted in
    let front = c.split_off.new.self in
    let ys = c.self.inside.tail_msgs.0 in
    let n = c.args.consumed in
    let k = c.min-first.result in
    let none : ys ≡ [] = nil_from_length ys (omega (arith, c.len.ensures.len, c.if-len-gt0.false)) in
    let parted : IsParted lo p all front c.in-Some.sorted = rw c.in-Some.is at c.in_ok-sorted.ensures.parted in
    let whole : all ≡ c.args.self.now.0 = sym (ap (λ t. all ++ t) none ∙ append-nil all) ∙ ap (λ (t : _). t.0) c.self.view_is in
    let len : c.len-2.result ≡ length front = c.len-2.ensures ∙ ap length (ap (λ t. front ++ t) none ∙ append-nil front) in
    c.drop_front.ensures.messages
    ∙ ap (λ t. drop k t) (ap (λ t. front ++ t) none ∙ append-nil front)
    ∙ drop_least n k front (omega (arith, c.min-first.ensures)) (λ h. omega (arith, h, c.min-first.ensures, len))
    ∙ front_left lo p all front c.in-Some.sorted n parted
    ∙ ap (λ t. pieces lo (Some p) (drop n t)) whole

pub returns-clause-back : goal.returns-clause-back
returns-clause-back g c =
    let lo = c.args.lo.now in
    let p = c.args.pivot.now in
    let all = c.self.inside.sorted in
    let front = c.split_off.new.self in
    let back = c.in-Some.sorted in
    let ys = c.self.inside.tail_msgs.0 in
    let n = c.args.consumed in
    let none : ys ≡ [] = nil_from_length ys (omega (arith, c.len.ensures.len, c.if-len-gt0.false)) in
    let parted : IsParted lo p all front back = rw c.in-Some.is at c.in_ok-sorted.ensures.parted in
    let whole : all ≡ c.args.self.now.0 = sym (ap (λ t. all ++ t) none ∙ append-nil all) ∙ ap (λ (t : _). t.0) c.self.view_is in
    let len : c.len-2.result ≡ length front = c.len-2.ensures ∙ ap length (ap (λ t. front ++ t) none ∙ append-nil front) in
    let rest : n - c.min-first.result ≡ n - length front = omega (arith, c.min-first.ensures, len) in
    c.drop_front-2.ensures.messages
    ∙ ap (λ t. drop (n - c.min-first.result) t) (ap (λ t. back ++ t) c.new-tail_msgs.ensures ∙ append-nil back)
    ∙ ap (λ m. drop m back) rest
    ∙ back_left lo p all front back n parted
    ∙ ap (λ t. pieces p None (drop n t)) whole
