use Rattle.std.proofs.Common.{◌≡◌, ap, sym, ◌∙◌, subst, [], ◌∷◌, ◌++◌, arith, append-nil}
use Rattle.std.proofs.lemmas.List.{nil_from_length}
use Rattle.pending.specs.SortedMsgs.{IsFirstEdit}
use Rattle.pending.proofs.Coming.{takes_pushed}
use Rattle.pending.proofs.pending.Pending.push_first.Goals as goal

pub returns-then-len-gt0-clause-takes : goal.returns-then-len-gt0-clause-takes
returns-then-len-gt0-clause-takes g c = takes_pushed g.U.Update.means c.args.msg c.args.self.now.0 c.push_uncondensed.new.self.0 c.push_uncondensed.ensures.messages

pub push_first-requires : goal.push_first-requires
push_first-requires g c =
    let f = c.self.inside.tail_msgs.0 in
    let s = c.self.inside.sorted in
    let none : f ≡ [] = nil_from_length f (omega (arith, c.len.ensures.len, c.if-len-gt0.false)) in
    let before : s ≡ c.args.self.now.0 = sym (append-nil s) ∙ sym (ap (λ x. s ++ x) none) ∙ ap (λ p. p.0) c.self.view_is in
    subst (λ t. IsFirstEdit c.args.msg t) (sym before) c.requires.first

pub returns-in-Err-clause-takes : goal.returns-in-Err-clause-takes
returns-in-Err-clause-takes g c =
    let f = c.self.inside.tail_msgs.0 in
    let m = c.args.msg in
    let same : c.push_first.new.self ++ f ≡ c.args.self.now.0 = ap (λ x. x ++ f) c.in-Err.ensures.unchanged ∙ ap (λ p. p.0) c.self.view_is in
    let is : c.push_uncondensed-in-Err.new.self.0 ≡ c.args.self.now.0 ++ m ∷ [] = c.push_uncondensed-in-Err.ensures.messages ∙ ap (λ x. x ++ c.in-Err.refused ∷ []) same ∙ ap (λ x. c.args.self.now.0 ++ x ∷ []) c.in-Err.ensures.back in
    takes_pushed g.U.Update.means m c.args.self.now.0 c.push_uncondensed-in-Err.new.self.0 is
