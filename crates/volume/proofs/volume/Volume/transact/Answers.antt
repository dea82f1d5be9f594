use Rattle.std.proofs.Common.{◌≡◌, ◌<◌, [], List, length, true, false, arith, subst, sym, ◌∙◌}
use Rattle.std.specs.Prelude.{◌==◌}
use Rattle.std.proofs.lemmas.Bool.Decides.{nat_tests}
use Rattle.std.proofs.lemmas.List.{nil_from_length}
use Rattle.reference.specs.declared.reply.Reply.{Reply}
use Rattle.volume.specs.Transactions.{DoesAll, Timed}
use Rattle.volume.proofs.Transacting.{lacks_first, no_call}
use Rattle.volume.proofs.volume.Volume.transact.Goals as goal

pub returns-then-is_empty : goal.returns-then-is_empty
returns-then-is_empty c =
    let e : (length c.args.calls.now == 0) ≡ true = sym c.is_empty.ensures ∙ c.if-is_empty.true in
    let none : length c.args.calls.now ≡ 0 = grind (arith, nat_tests, e) in
    subst (λ (rs : List Reply). DoesAll c.args.calls.now rs c.args.self.now c.args.self.now) (sym c.new.ensures.items)
    (subst (λ (cs : List Timed). DoesAll cs [] c.args.self.now c.args.self.now) (sym (nil_from_length c.args.calls.now none)) (no_call c.args.self.now))

pub returns-in_default : goal.returns-in_default
returns-in_default c =
    let e : (length c.args.calls.now == 0) ≡ false = sym c.is_empty.ensures ∙ c.if-is_empty.false in
    let some : 0 < length c.args.calls.now = grind (arith, nat_tests, e) in
    lacks_first c.args.calls.now c.args.self.now some
