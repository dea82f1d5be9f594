use Rattle.std.proofs.Common.{◌≡◌, refl, sym, ap, ◌∙◌, true, false}
use Rattle.std.specs.Ordering.{is_lt}
use Rattle.message.specs.Ranges.{before}
use Rattle.scan.proofs.Merging.{front_past, front_by}
use Rattle.scan.proofs.apply_pass.pop_by.Goals as goal

pub returns-then-is_lt-clause-none : goal.returns-then-is_lt-clause-none
returns-then-is_lt-clause-none g c =
    let past : before c.args.key.now c.in-Some.first.now.0 ≡ true = sym (c.is_lt.ensures ∙ ap is_lt c.cmp.ensures) ∙ c.if-is_lt.true in
    (refl, front_past c.args.key.now c.args.rest.now.items c.in-Some.first.now c.in-Some.ensures.lookup past)

pub returns-clause-some : goal.returns-clause-some
returns-clause-some g c =
    let by : before c.args.key.now c.in-Some.first.now.0 ≡ false = sym (c.is_lt.ensures ∙ ap is_lt c.cmp.ensures) ∙ c.if-is_lt.false in
    front_by c.args.key.now c.args.rest.now.items c.pop_front.new.self.items c.pop_front.result c.in-Some.first.now c.in-Some.ensures.lookup by c.pop_front.ensures.items
