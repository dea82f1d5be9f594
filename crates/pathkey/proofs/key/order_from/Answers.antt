use Rattle.std.proofs.Common.{◌≤◌, ◌⊎◌, length, arith, ◌∙◌, sym, inl, inr, ⊎_elim}
use Rattle.std.proofs.lemmas.List.{take_rest}
use Rattle.std.proofs.lemmas.Bool.{cases_lt}
use Rattle.pathkey.proofs.HeadFacts.{are_bytes, begin_alike, short_by_lengths, order_at, equal_at}
use Rattle.pathkey.proofs.key.order_from.Goals as goal

pub returns-then-head-other-clause-order : goal.returns-then-head-other-clause-order
returns-then-head-other-clause-order c = λ alike.
    let head = rw (take_rest c.args.left.now c.min-at.result) at c.whole_head-head.ensures in
    let other = rw (take_rest c.args.right.now c.min-at.result) at c.whole_head-other.ensures in
    rw (c.cmp.ensures, head, other) (order_at c.loop-same.same c.min-at.result c.args.left.now c.args.right.now (are_bytes _ c.type_inv.left) (are_bytes _ c.type_inv.right) (c.loop-same.invariant.equal alike)
    (omega (arith, c.min-at.ensures)) (omega (arith, c.min-at.ensures, c.min-both.ensures, c.loop-same-test.true)) (omega (arith, c.min-at.ensures, c.min-both.ensures, c.loop-same-test.true))
    (λ e. c.if-head-other.true (head ∙ e ∙ sym other)))

pub returns-then-head-other-clause-same : goal.returns-then-head-other-clause-same
returns-then-head-other-clause-same c = λ alike.
    begin_alike c.loop-same.same c.loop-same.same _ _ (are_bytes _ c.type_inv.left) (are_bytes _ c.type_inv.right) (omega arith)
    (omega (arith, c.min-both.ensures, c.loop-same-test.true)) (omega (arith, c.min-both.ensures, c.loop-same-test.true)) (c.loop-same.invariant.equal alike)

pub loop-same-preserved : goal.loop-same-preserved
loop-same-preserved c =
    let head = rw (take_rest c.args.left.now c.min-at.result) at c.whole_head-head.ensures in
    let other = rw (take_rest c.args.right.now c.min-at.result) at c.whole_head-other.ensures in
    record {
      whole = omega arith;
      equal = λ alike. equal_at c.loop-same.same c.min-at.result c.args.left.now c.args.right.now (are_bytes _ c.type_inv.left) (are_bytes _ c.type_inv.right) (c.loop-same.invariant.equal alike)
          (omega (arith, c.min-at.ensures)) (omega (arith, c.min-at.ensures, c.min-both.ensures, c.loop-same-test.true)) (omega (arith, c.min-at.ensures, c.min-both.ensures, c.loop-same-test.true))
          (sym head ∙ c.if-head-other.false ∙ other);
    }

pub returns-clause-order : goal.returns-clause-order
returns-clause-order c = λ alike.
    let short : (length c.args.left.now ≤ c.loop-same.same) ⊎ (length c.args.right.now ≤ c.loop-same.same) =
    ⊎_elim (λ l. inl (omega (arith, c.min-both.ensures, c.loop-same-test.false))) (λ g. inr (omega (arith, c.min-both.ensures, c.loop-same-test.false))) (cases_lt (length c.args.left.now) (length c.args.right.now)) in
    c.cmp-2.ensures ∙ sym (short_by_lengths c.loop-same.same _ _ (are_bytes _ c.type_inv.left) (are_bytes _ c.type_inv.right) (c.loop-same.invariant.equal alike) short)

pub returns-clause-same : goal.returns-clause-same
returns-clause-same c = λ alike.
    begin_alike c.min-both.result c.loop-same.same _ _ (are_bytes _ c.type_inv.left) (are_bytes _ c.type_inv.right) (omega (arith, c.loop-same-test.false))
    (omega (arith, c.min-both.ensures)) (omega (arith, c.min-both.ensures)) (c.loop-same.invariant.equal alike)
