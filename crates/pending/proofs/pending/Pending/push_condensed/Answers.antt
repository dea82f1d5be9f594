use Rattle.std.proofs.Common.{◌≡◌, ap, sym, ◌∙◌, subst, [], ◌∷◌, ◌++◌, arith, append-nil}
use Rattle.std.proofs.lemmas.List.{nil_from_length}
use Rattle.message.specs.Effects.{Takes}
use Rattle.message.proofs.Composing.{takes-then}
use Rattle.pending.proofs.Coming.{takes_pushed}
use Rattle.pending.proofs.pending.Pending.push_condensed.Goals as goal

pub returns-then-len-gt0-clause-takes : goal.returns-then-len-gt0-clause-takes
returns-then-len-gt0-clause-takes g c =
    let means = g.U.Update.means in
    let all = c.condense.new.sorted ++ c.condense.new.tail_msgs.0 in
    let m = c.args.msg in
    subst (λ t. Takes means t (m ∷ []) c.push_uncondensed.new.self.0) (ap (λ p. p.0) c.self.view_is) (takes-then means _ [] all _ _ c.condense.ensures.same (takes_pushed means m all c.push_uncondensed.new.self.0 c.push_uncondensed.ensures.messages))

pub returns-in-Err-clause-takes : goal.returns-in-Err-clause-takes
returns-in-Err-clause-takes g c =
    let means = g.U.Update.means in
    let s = c.condense.new.sorted in
    let f = c.condense.new.tail_msgs.0 in
    let t = c.push.new.self in
    let m = c.args.msg in
    let none : f ≡ [] = nil_from_length f (omega (arith, c.len.ensures.len, c.if-len-gt0.false)) in
    let before : s ≡ s ++ f = sym (ap (λ x. s ++ x) none ∙ append-nil s) in
    let behind : t ++ m ∷ [] ≡ c.push_uncondensed-in-Err.new.self.0 = sym (c.push_uncondensed-in-Err.ensures.messages ∙ ap (λ x. x ++ c.in-Err.refused ∷ []) (ap (λ x. t ++ x) none ∙ append-nil t) ∙ ap (λ x. t ++ x ∷ []) c.in-Err.ensures.back) in
    subst (λ x. Takes means x (m ∷ []) c.push_uncondensed-in-Err.new.self.0) (ap (λ p. p.0) c.self.view_is) (takes-then means _ [] (s ++ f) _ _ c.condense.ensures.same (subst (λ x. Takes means (s ++ f) (m ∷ []) x) behind (subst (λ x. Takes means x (m ∷ []) (t ++ m ∷ [])) before c.in-Err.ensures.refused)))
