use Rattle.std.proofs.Common.{arith, ap, sym, ◌∙◌, ◌≡◌, ◌≤◌, ◌<◌, ◌+◌, length, take, subst}
use Rattle.node.specs.Lawful.{pending}
use Rattle.flush.proofs.OldestOf.{first_of}
use Rattle.node.specs.Pure.{inner, leaf}
use Rattle.node.specs.See.{see, seen_slots}
use Rattle.node.specs.StepRows.{IsFullBelow, piece_count}
use Rattle.node.specs.declared.node.Slot.{Slot}
use Rattle.node.specs.Searchable.{IsSearchable}
use Rattle.node.proofs.Placing.{searchable_child}
use Rattle.node.proofs.Splice.{slots_from-past}
use Rattle.flush.proofs.InnerFlush.{too_many, not_too_many, never_full}
use Rattle.flush.proofs.inner.InnerFlushSlotStep.has_room.Goals as goal

pub returns-then-i-slots-clause-yes : goal.returns-then-i-slots-clause-yes
returns-then-i-slots-clause-yes g c = λ t k lo hi l able full.
    let past : length c.args.slots.now ≤ c.args.i = omega arith in
    absurd (subst (IsFullBelow c.args.shape.pending) (slots_from-past c.args.slots.now c.args.i past) full)

pub returns-then-len-eq0-clause-yes : goal.returns-then-len-eq0-clause-yes
returns-then-len-eq0-clause-yes g c = λ t k lo hi l able.
    let b : c.args.i < length c.args.slots.now = omega arith in
    never_full c.args.shape.pending c.args.i c.args.slots.now c.index-slots-i.result b c.index-slots-i.is (λ m ms cs ep ec. omega (arith, ap length ep, c.len.ensures))

pub returns-in-Leaf-clause-yes : goal.returns-in-Leaf-clause-yes
returns-in-Leaf-clause-yes g c = λ t k lo hi l able.
    let b : c.args.i < length c.args.slots.now = omega arith in
    let below = ap see (sym c.in-Leaf.is) ∙ c.body.ensures ∙ c.deref.ensures in
    never_full c.args.shape.pending c.args.i c.args.slots.now c.index-slots-i.result b c.index-slots-i.is (λ m ms cs ep ec. let two : inner cs ≡ leaf c.in-Leaf.field-0.items = ec ∙ sym below in (cc))

pub returns-in-Inner-clause-yes : goal.returns-in-Inner-clause-yes
returns-in-Inner-clause-yes g c = λ t k lo hi l able.
    let b : c.args.i < length c.args.slots.now = omega arith in
    let some : 0 < length c.index-slots-i.result.pending.0 = omega (arith, c.len.ensures) in
    let o = first_of c.index-slots-i.result.pending.0 some in
    let ec : inner (seen_slots c.as_slice.result.now) ≡ c.index-slots-i.result.child.value = ap (λ z. inner (seen_slots z)) c.as_slice.ensures.value ∙ ap see (sym c.in-Inner.is) ∙ c.body.ensures ∙ c.deref.ensures in
    not_too_many c.args.shape.pending c.args.i c.args.slots.now c.index-slots-i.result o.0 o.1 (seen_slots c.as_slice.result.now) b c.index-slots-i.is o.2 ec (subst (λ z. pending (seen_slots c.as_slice.result.now) + piece_count (take 1 z) (seen_slots c.as_slice.result.now) ≤ c.args.shape.pending) o.2 (c.takes.ensures.yes t))

pub returns-in-Inner-clause-no : goal.returns-in-Inner-clause-no
returns-in-Inner-clause-no g c = λ t.
    let b : c.args.i < length c.args.slots.now = omega arith in
    let some : 0 < length c.index-slots-i.result.pending.0 = omega (arith, c.len.ensures) in
    let o = first_of c.index-slots-i.result.pending.0 some in
    let ec : inner (seen_slots c.as_slice.result.now) ≡ c.index-slots-i.result.child.value = ap (λ z. inner (seen_slots z)) c.as_slice.ensures.value ∙ ap see (sym c.in-Inner.is) ∙ c.body.ensures ∙ c.deref.ensures in
    too_many c.args.shape.pending c.args.i c.args.slots.now c.index-slots-i.result o.0 o.1 (seen_slots c.as_slice.result.now) b c.index-slots-i.is o.2 ec (subst (λ z. c.args.shape.pending < pending (seen_slots c.as_slice.result.now) + piece_count (take 1 z) (seen_slots c.as_slice.result.now)) o.2 (c.takes.ensures.no t))

pub takes-requires : goal.takes-requires
takes-requires g c =
    let b : c.args.i < length c.args.slots.now = omega arith in
    let ec : inner (seen_slots c.as_slice.result.now) ≡ c.index-slots-i.result.child.value = ap (λ z. inner (seen_slots z)) c.as_slice.ensures.value ∙ ap see (sym c.in-Inner.is) ∙ c.body.ensures ∙ c.deref.ensures in
    let child = subst (λ (s : Slot g.row.U.Denot g.row.U-Value.Denot). IsSearchable s.child.value) (sym c.index-slots-i.is) (searchable_child c.args.slots.now c.args.i c.index-slots-i.result b c.requires.1) in
    (subst IsSearchable (sym ec) child).0
