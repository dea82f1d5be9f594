use Rattle.std.proofs.Common.{◌≡◌, ap, sym, ◌∙◌, subst, [], ◌++◌, arith, append-nil}
use Rattle.std.proofs.lemmas.List.{nil_from_length}
use Rattle.pending.specs.SortedMsgs.{JoinsMsg}
use Rattle.pending.proofs.pending.Pending.join.Goals as goal

pub returns-clause-joined : goal.returns-clause-joined
returns-clause-joined g c =
    let means = g.U.Update.means in
    let f = c.self.inside.tail_msgs.0 in
    let s = c.self.inside.sorted in
    let t = c.join.new.self in
    let j = c.join.result in
    let m = c.args.msg.now in
    let none : f ≡ [] = nil_from_length f (omega (arith, c.len.ensures.len, c.if-len-gt0.false)) in
    let before : s ≡ c.args.self.now.0 = sym (append-nil s) ∙ sym (ap (λ x. s ++ x) none) ∙ ap (λ p. p.0) c.self.view_is in
    let behind : t ≡ t ++ f = sym (ap (λ x. t ++ x) none ∙ append-nil t) in
    subst (λ x. JoinsMsg means j m c.args.self.now.0 x) behind (subst (λ x. JoinsMsg means j m x t) before c.join.ensures)
