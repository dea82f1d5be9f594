use Rattle.std.proofs.Common.{◌≡◌, ◌++◌, [], ap, sym, ◌∙◌, subst, take, arith, append_assoc}
use Rattle.std.proofs.lemmas.List.{append-nil, nil_from_length, take-append-drop}
use Rattle.message.specs.Effects.{Takes}
use Rattle.message.proofs.Composing.{takes-none}
use Rattle.message.proofs.Condensing.{takes_folded}
use Rattle.pending.proofs.pending.Pending.flush_more.Goals as goal

pub returns-then-most-gt0-clause-same : goal.returns-then-most-gt0-clause-same
returns-then-most-gt0-clause-same g c =
    let from = c.args.self.now.0 in
    let rest = c.flush_oldest.new.self.0 in
    let n = c.in_ok-flush_oldest.field-0 in
    let parts : from ≡ take n from ++ rest = sym (take-append-drop n from) ∙ ap (λ t. take n from ++ t) (sym c.in_ok-flush_oldest.ensures.left) in
    takes_folded g.U.Update.means c.args.to.now.0 c.flush_oldest.new.to.0 from rest (take n from) parts c.in_ok-flush_oldest.ensures.takes

pub returns-clause-same : goal.returns-clause-same
returns-clause-same g c =
    let means = g.U.Update.means in
    let to = c.args.to.now.0 in
    let from = c.args.self.now.0 in
    let s = c.to.inside.sorted in
    let f = c.to.inside.tail_msgs.0 in
    let old = c.self.inside.sorted in
    let tail = c.self.inside.tail_msgs.0 in
    let none : old ≡ [] = nil_from_length old (omega (arith, c.len-most.ensures.len, c.if-most-gt0.false)) in
    let whole : tail ≡ from = sym (ap (λ t. t ++ tail) none) ∙ ap (λ (t : _). t.0) c.self.view_is in
    let left : old ++ c.join.new.newer.0 ≡ [] = ap (λ t. t ++ c.join.new.newer.0) none ∙ c.in_ok-join.ensures.moved in
    let new : s ++ c.join.new.self.0 ≡ to ++ from = ap (λ t. s ++ t) (c.in_ok-join.ensures.ok ∙ ap (λ t. f ++ t) whole) ∙ sym (append_assoc s f from) ∙ ap (λ (t : _). t.0 ++ from) c.to.view_is in
    let all = ap (λ t. (s ++ c.join.new.self.0) ++ t) left ∙ append-nil (s ++ c.join.new.self.0) ∙ new in
    subst (λ t. Takes means (to ++ from) [] t) (sym all) (takes-none means (to ++ from))
