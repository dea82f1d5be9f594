use Rattle.std.proofs.Common.{arith, ap, sym, ◌∙◌, ◌≡◌, ◌<◌, length, subst, drop}
use Rattle.message.specs.Effects.{range_count}
use Rattle.message.specs.Oldest.{first_put}
use Rattle.node.specs.StepRows.{CanPart, CannotPart}
use Rattle.flush.proofs.OldestOf.{first_of}
use Rattle.node.specs.Pure.{leaf, inner}
use Rattle.node.specs.Searchable.{IsSearchable}
use Rattle.node.specs.See.{see, seen_slots}
use Rattle.node.proofs.Placing.{searchable_child}
use Rattle.flush.proofs.LeafFlush.{may_past, may_unable, may_take, may_cut, cannot}
use Rattle.flush.proofs.leaf.LeafFlushSlotStep.has_room.Goals as goal

pub returns-then-i-slots-clause-yes : goal.returns-then-i-slots-clause-yes
returns-then-i-slots-clause-yes g c = λ t k lo hi l able. may_past g.U.Update.means c.args.shape c.args.root c.args.i c.args.slots.now (omega arith)

pub returns-then-len-eq0-clause-yes : goal.returns-then-len-eq0-clause-yes
returns-then-len-eq0-clause-yes g c = λ t k lo hi l able.
    let b : c.args.i < length c.args.slots.now = omega arith in
    may_unable g.U.Update.means c.args.shape c.args.root c.args.i c.args.slots.now c.index-slots-i.result b c.index-slots-i.is (λ m ms es ep ec. omega (arith, ap length ep, c.len.ensures))

pub returns-in-Inner-clause-yes : goal.returns-in-Inner-clause-yes
returns-in-Inner-clause-yes g c = λ t k lo hi l able.
    let b : c.args.i < length c.args.slots.now = omega arith in
    let below = ap see (sym c.in-Inner.is) ∙ c.body.ensures ∙ c.deref.ensures in
    may_unable g.U.Update.means c.args.shape c.args.root c.args.i c.args.slots.now c.index-slots-i.result b c.index-slots-i.is (λ m ms es ep ec. let two : leaf es ≡ inner (seen_slots c.in-Inner.field-0.items) = ec ∙ sym below in (cc))

pub is_overfull-requires : goal.is_overfull-requires
is_overfull-requires g c =
    let b : c.args.i < length c.args.slots.now = omega arith in
    let ec : leaf c.as_slice.result.now ≡ c.index-slots-i.result.child.value = ap leaf c.as_slice.ensures.value ∙ ap see (sym c.in-Leaf.is) ∙ c.body.ensures ∙ c.deref.ensures in
    subst IsSearchable (sym ec) (subst (λ s. IsSearchable s.child.value) (sym c.index-slots-i.is) (searchable_child c.args.slots.now c.args.i c.index-slots-i.result b c.requires.1))

pub returns-then-not-is_overfull-clause-yes : goal.returns-then-not-is_overfull-clause-yes
returns-then-not-is_overfull-clause-yes g c = λ t k lo hi l able.
    let b : c.args.i < length c.args.slots.now = omega arith in
    let some : 0 < length c.index-slots-i.result.pending.0 = omega (arith, c.len.ensures) in
    let o = first_of c.index-slots-i.result.pending.0 some in
    let ec : leaf c.as_slice.result.now ≡ c.index-slots-i.result.child.value = ap leaf c.as_slice.ensures.value ∙ ap see (sym c.in-Leaf.is) ∙ c.body.ensures ∙ c.deref.ensures in
    may_take g.U.Update.means c.args.shape c.args.root c.args.i c.args.slots.now c.index-slots-i.result o.0 o.1 c.as_slice.result.now b c.index-slots-i.is o.2 ec (c.is_overfull.ensures.no c.if-not-is_overfull.true o.0 (sym (c.oldest_put-put.ensures ∙ ap first_put o.2))) k lo hi l

pub returns-else-not-is_overfull-clause-yes : goal.returns-else-not-is_overfull-clause-yes
returns-else-not-is_overfull-clause-yes g c = λ t k lo hi l able.
    let b : c.args.i < length c.args.slots.now = omega arith in
    let some : 0 < length c.index-slots-i.result.pending.0 = omega (arith, c.len.ensures) in
    let o = first_of c.index-slots-i.result.pending.0 some in
    let ec : leaf c.as_slice.result.now ≡ c.index-slots-i.result.child.value = ap leaf c.as_slice.ensures.value ∙ ap see (sym c.in-Leaf.is) ∙ c.body.ensures ∙ c.deref.ensures in
    may_cut g.U.Update.means c.args.shape c.args.root c.args.i c.args.slots.now c.index-slots-i.result o.0 o.1 c.as_slice.result.now b c.index-slots-i.is o.2 ec (subst (λ z. CanPart c.args.shape c.args.root (seen_slots c.args.slots.now) 1 (range_count (drop 1 z))) o.2 (c.can_split.ensures.room t))

pub returns-else-not-is_overfull-clause-no : goal.returns-else-not-is_overfull-clause-no
returns-else-not-is_overfull-clause-no g c = λ t.
    let b : c.args.i < length c.args.slots.now = omega arith in
    let some : 0 < length c.index-slots-i.result.pending.0 = omega (arith, c.len.ensures) in
    let o = first_of c.index-slots-i.result.pending.0 some in
    let ec : leaf c.as_slice.result.now ≡ c.index-slots-i.result.child.value = ap leaf c.as_slice.ensures.value ∙ ap see (sym c.in-Leaf.is) ∙ c.body.ensures ∙ c.deref.ensures in
    cannot g.U.Update.means c.args.shape c.args.root c.args.i c.args.slots.now c.index-slots-i.result o.0 o.1 c.as_slice.result.now b c.index-slots-i.is o.2 ec (c.is_overfull.ensures.yes c.if-not-is_overfull.false o.0 (sym (c.oldest_put-put.ensures ∙ ap first_put o.2))) (subst (λ z. CannotPart c.args.shape c.args.root (seen_slots c.args.slots.now) 1 (range_count (drop 1 z))) o.2 (c.can_split.ensures.none t))
