use Rattle.std.proofs.Common.{arith, refl, ap, sym, ◌∙◌, subst, ◌≤◌, ◌<◌, length}
use Rattle.std.proofs.lemmas.List.{get_or_default}
use Rattle.node.specs.Searchable.{IsSearchable}
use Rattle.node.specs.StepRows.{can_flush_leaf}
use Rattle.node.proofs.Placing.{searchable_child}
use Rattle.node.proofs.Splice.{slots_from-past}
use Rattle.flush.specs.Leaf.{HasPlace}
use Rattle.flush.proofs.LeafFlush.{filled}
use Rattle.flush.proofs.leaf.LeafFlushSlotStep.change.Goals as goal

pub returns-then-i-len : goal.returns-then-i-len
returns-then-i-len g c =
    let h : length c.args.slots.now.items ≤ c.args.i = omega arith in
    (refl, λ hi. ap can_flush_leaf (slots_from-past c.args.slots.now.items c.args.i h))

pub takes_oldest-requires : goal.takes_oldest-requires
takes_oldest-requires g c =
    let h : c.args.i < length c.args.slots.now.items = omega arith in
    subst (λ s. IsSearchable s.child.value) (sym c.index.ensures) (searchable_child c.args.slots.now.items c.args.i c.index.result.now h c.requires.searchable.1)

pub apply_oldest_fitting-requires-clause-searchable : goal.apply_oldest_fitting-requires-clause-searchable
apply_oldest_fitting-requires-clause-searchable g c =
    let h : c.args.i < length c.args.slots.now.items = omega arith in
    subst (λ s. IsSearchable s.child.value) (sym c.index_mut.ensures.value) (searchable_child c.args.slots.now.items c.args.i c.index_mut.result.now h c.requires.searchable.1)

pub apply_oldest_fitting-requires-clause-place : goal.apply_oldest_fitting-requires-clause-place
apply_oldest_fitting-requires-clause-place g c =
    let h : c.args.i < length c.args.slots.now.items = omega arith in
    let one = c.index.ensures ∙ get_or_default c.args.slots.now.items c.args.i c.index.result.now c.index_mut.result.now h ∙ sym c.index_mut.ensures.value in
    subst (λ s. HasPlace g.U.Update.means c.args.shape.leaf s.pending.0 s.child.value) one (c.takes_oldest.ensures c.if-not-takes_oldest.false)

pub returns : goal.returns
returns g c =
    let h : c.args.i < length c.args.slots.now.items = omega arith in
    let u = subst (λ s. IsSearchable s.child.value) (sym c.index_mut.ensures.value) (searchable_child c.args.slots.now.items c.args.i c.index_mut.result.now h c.requires.searchable.1) in
    let one = c.index.ensures ∙ get_or_default c.args.slots.now.items c.args.i c.index.result.now c.index_mut.result.now h ∙ sym c.index_mut.ensures.value in
    let p = subst (λ s. HasPlace g.U.Update.means c.args.shape.leaf s.pending.0 s.child.value) one (c.takes_oldest.ensures c.if-not-takes_oldest.false) in
    filled g.U.Update.means c.args.shape c.args.root c.args.i c.args.slots.now.items c.index_mut.result.now h c.index_mut.ensures.value c.apply_oldest_fitting.new.slot c.apply_oldest_fitting.result u p c.apply_oldest_fitting.ensures.lo c.apply_oldest_fitting.ensures.left c.apply_oldest_fitting.ensures.filled
