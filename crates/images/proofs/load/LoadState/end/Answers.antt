use Rattle.std.proofs.Common.{◌≡◌, ◌<◌, length, rules, sym, ◌∙◌, inl, inr}
use Rattle.images.proofs.LoadFacts.{end_refused, ended, bad_number}
use Rattle.images.proofs.load.LoadState.end.Goals as goal

pub returns-then-not-is_empty-clause-bad : goal.returns-then-not-is_empty-clause-bad
returns-then-not-is_empty-clause-bad c = λ n e.
    let some : 0 < length c.args.held.now = search rules in
    end_refused c.args.held.now n c.args.self.now (sym (bad_number c.in_ok-number.number n e) ∙ c.in_ok-number.ensures.ok) (inl some)

pub returns-then-self-eq0-clause-bad : goal.returns-then-self-eq0-clause-bad
returns-then-self-eq0-clause-bad c = λ n e. end_refused c.args.held.now n c.args.self.now (sym (bad_number c.in_ok-number.number n e) ∙ c.in_ok-number.ensures.ok) (inr c.if-self-eq0.true)

pub returns-clause-ok : goal.returns-clause-ok
returns-clause-ok c =
    let none : length c.args.held.now ≡ 0 = search rules in
    ended c.args.held.now c.args.self.now none (λ z. c.if-self-eq0.false z)
