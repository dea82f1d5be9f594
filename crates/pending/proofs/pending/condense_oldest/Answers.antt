use Rattle.std.proofs.Common.{◌≡◌, [], ◌∷◌, ◌++◌, ap, sym, ◌∙◌, subst, append_assoc}
use Rattle.message.specs.Effects.{Takes}
use Rattle.message.proofs.Condensing.{takes_folded}
use Rattle.pending.proofs.pending.condense_oldest.Goals as goal

pub returns-in-Ok-clause-same : goal.returns-in-Ok-clause-same
returns-in-Ok-clause-same g c = takes_folded g.U.Update.means c.args.sorted.now c.push.new.self c.args.tail_msgs.now.0 c.pop.new.self.0 (c.in-Some.msg ∷ []) c.in-Some.ensures.moved c.in-Ok.ensures.takes

pub returns-in-Err-clause-same : goal.returns-in-Err-clause-same
returns-in-Err-clause-same g c =
    let means = g.U.Update.means in
    let s = c.args.sorted.now in
    let t = c.push.new.self in
    let f = c.args.tail_msgs.now.0 in
    let m = c.in-Some.msg in
    let rest = c.pop.new.self.0 in
    let behind : t ++ (m ∷ rest) ≡ t ++ c.push_front_reserved.new.self.0 = ap (λ x. t ++ x) (sym (c.push_front_reserved.ensures.messages ∙ ap (λ x. x ∷ rest) c.in-Err.ensures.back)) in
    subst (λ x. Takes means (s ++ f) [] x) (append_assoc t (m ∷ []) rest ∙ behind) (takes_folded means s (t ++ m ∷ []) f rest (m ∷ []) c.in-Some.ensures.moved c.in-Err.ensures.refused)
