use Rattle.std.proofs.Common.{arith, inl, inr, true≢false, sym, ◌∙◌}
use Rattle.std.proofs.lemmas.Bool.{leb-true, leb-false}
use Rattle.node.proofs.Placing.{slot_count-slots}
use Rattle.node.proofs.node.count.can_split.Goals as goal

pub returns-then-slots-shape-clause-none : goal.returns-then-slots-shape-clause-none
returns-then-slots-shape-clause-none g c = λ f. inl (omega (arith, slot_count-slots c.args.slots.now))

pub returns-then-root-clause-room : goal.returns-then-root-clause-room
returns-then-root-clause-room g c = λ t. (omega (arith, slot_count-slots c.args.slots.now), λ r. absurd (true≢false (sym c.if-root.true ∙ r)))

pub returns-else-root-clause-room : goal.returns-else-root-clause-room
returns-else-root-clause-room g c = λ t. (
  omega (arith, slot_count-slots c.args.slots.now),
  λ r.
      let sum = leb-true _ _ t in
      omega (arith, sum, c.pending_len.ensures.exact, c.range_deletes-twice.ensures),
)

pub returns-else-root-clause-none : goal.returns-else-root-clause-none
returns-else-root-clause-none g c = λ f.
    let sum = leb-false _ _ f in
    inr (c.if-root.false, omega (arith, sum, c.pending_len.ensures.exact, c.range_deletes-twice.ensures))
