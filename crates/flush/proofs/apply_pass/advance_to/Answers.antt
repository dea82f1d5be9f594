use Rattle.std.proofs.Common.{◌≡◌, ◌∙◌, ◌-◌, [], None, length, sym, subst, arith}
use Rattle.node.specs.Lawful.{Rises}
use Rattle.node.specs.Leaves.{IsGap}
use Rattle.flush.proofs.AtPlace.{entry_last, gap_behind}
use Rattle.flush.proofs.Merging.{as_many, behind_last, come_past, come_there, rises_front, rises_past, rises_wider}
use Rattle.flush.proofs.apply_pass.advance_to.Goals as goal

pub loop-order-preserved : goal.loop-order-preserved
loop-order-preserved g c =
    let step = c.move_up_to-order.ensures in
    let more = as_many c.move_up_to-order.new.done.items c.move_up_to-order.new.left.items c.loop-order.done.items c.loop-order.left.items step.all in
    record {
      all = step.all ∙ c.loop-order.invariant.all;
      room = omega (arith, more, step.capacity, c.loop-order.invariant.room);
      capacity = step.capacity ∙ c.loop-order.invariant.capacity;
      come = step.come;
    }

pub returns-then-is_eq-clause-place : goal.returns-then-is_eq-clause-place
returns-then-is_eq-clause-place g c =
    let done = c.loop-order.done.items in
    let left = c.loop-order.left.items in
    let at = come_there c.args.key.now done left c.loop-order.order c.loop-order.invariant.come (sym c.is_eq.ensures ∙ c.if-is_eq.true) in
    let r = rises_front done left (subst (λ zs. Rises [] None zs) (sym c.loop-order.invariant.all) c.requires.rising) in
    let last : c.len.result - 1 ≡ length done - 1 = omega (arith, c.len.ensures) in
    entry_last c.args.key.now done (c.len.result - 1) at r last

pub returns-then-is_eq-clause-ahead : goal.returns-then-is_eq-clause-ahead
returns-then-is_eq-clause-ahead g c = λ n b.
    let done = c.loop-order.done.items in
    let left = c.loop-order.left.items in
    let at = come_there c.args.key.now done left c.loop-order.order c.loop-order.invariant.come (sym c.is_eq.ensures ∙ c.if-is_eq.true) in
    rises_past c.args.key.now n done at (rises_front done left (subst (λ zs. Rises [] None zs) (sym c.loop-order.invariant.all) c.requires.rising)) b

pub returns-then-is_eq-clause-behind : goal.returns-then-is_eq-clause-behind
returns-then-is_eq-clause-behind g c =
    let done = c.loop-order.done.items in
    let left = c.loop-order.left.items in
    let at = come_there c.args.key.now done left c.loop-order.order c.loop-order.invariant.come (sym c.is_eq.ensures ∙ c.if-is_eq.true) in
    behind_last c.args.key.now done left at (subst (λ zs. Rises [] None zs) (sym c.loop-order.invariant.all) c.requires.rising)

pub returns-else-is_eq-clause-place : goal.returns-else-is_eq-clause-place
returns-else-is_eq-clause-place g c =
    let done = c.loop-order.done.items in
    let past = come_past c.args.key.now done c.loop-order.left.items c.loop-order.order c.loop-order.invariant.come (sym c.is_lt.ensures ∙ c.loop-order-test.false) (sym c.is_eq.ensures ∙ c.if-is_eq.false) in
    let n : c.len-else-is_eq.result ≡ length done = omega (arith, c.len-else-is_eq.ensures) in
    subst (λ i. IsGap done c.args.key.now i) (sym n) (gap_behind c.args.key.now done past.0)

pub returns-else-is_eq-clause-ahead : goal.returns-else-is_eq-clause-ahead
returns-else-is_eq-clause-ahead g c = λ n b.
    let done = c.loop-order.done.items in
    let past = come_past c.args.key.now done c.loop-order.left.items c.loop-order.order c.loop-order.invariant.come (sym c.is_lt.ensures ∙ c.loop-order-test.false) (sym c.is_eq.ensures ∙ c.if-is_eq.false) in
    rises_wider [] c.args.key.now n done b past.0
