use Rattle.std.proofs.Common.{◌≡◌, sym, ◌∙◌, true, false}
use Rattle.pathkey.specs.Order.{same}
use Rattle.pending.proofs.Runs.{consumed_first, consumed_none, left_other, some_at, some_first}
use Rattle.pending.proofs.sorted_msgs.consumed_at.Goals as goal

pub returns-then-consumed-eq0-clause-some : goal.returns-then-consumed-eq0-clause-some
returns-then-consumed-eq0-clause-some g c = some_at c.args.points.now c.args.key.now c.assert_invariant.ensures.runs

pub returns-in-Some-clause-left : goal.returns-in-Some-clause-left
returns-in-Some-clause-left g c =
    let here : same c.in-Some.first.now c.args.key.now ≡ true = sym c.eq.ensures ∙ c.if-eq.true in
    consumed_first c.args.consumed c.args.points.now c.in-Some.first.now c.in-Some.field-0-1.now c.args.key.now (sym c.in-Some.ensures) here

pub returns-in-Some-clause-some : goal.returns-in-Some-clause-some
returns-in-Some-clause-some g c =
    let here : same c.in-Some.first.now c.args.key.now ≡ true = sym c.eq.ensures ∙ c.if-eq.true in
    some_first c.args.consumed c.args.points.now c.in-Some.first.now c.in-Some.field-0-1.now c.args.key.now (sym c.in-Some.ensures) here c.requires

pub returns-in_default-clause-left : goal.returns-in_default-clause-left
returns-in_default-clause-left g c =
    let other : same c.in-Some.first.now c.args.key.now ≡ false = sym c.eq.ensures ∙ c.if-eq.false in
    consumed_none c.args.consumed c.args.points.now c.args.key.now (left_other c.args.consumed c.args.points.now c.in-Some.first.now c.in-Some.field-0-1.now c.args.key.now (sym c.in-Some.ensures) other)

pub returns-in_default-clause-some : goal.returns-in_default-clause-some
returns-in_default-clause-some g c = some_at c.args.points.now c.args.key.now c.assert_invariant.ensures.runs
