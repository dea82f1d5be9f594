use Rattle.std.proofs.Common.{suc, arith, refl, ap, sym, ◌≡◌, ◌∙◌, subst, add-one, get_or, drop}
use Rattle.std.specs.List.{insert}
use Rattle.std.proofs.lemmas.List.{get_or_default}
use Rattle.node.specs.declared.node.Slot.{Slot}
use Rattle.std.proofs.Math.ListN.{set}
use Rattle.node.specs.Searchable.{IsSearchable}
use Rattle.node.specs.See.{seen_slots}
use Rattle.node.specs.Steps.{Replies}
use Rattle.node.specs.declared.step.StepReply.TheVariants.{Did}
use Rattle.node.specs.declared.step.StepKind.TheVariants.{FlushLeaf}
use Rattle.node.proofs.Placing.{searchable_child}
use Rattle.message.specs.Effects.{range_count}
use Rattle.node.specs.StepRows.{CanPart, CannotPart}
use Rattle.flush.proofs.OldestOf.{after_some}
use Rattle.flush.proofs.LeafFlush.{some_leaf, no_room, halved}
use Rattle.flush.proofs.leaf.split_leaf.Goals as goal

pub returns-then-not-can_split : goal.returns-then-not-can_split
returns-then-not-can_split g c =
    let xs = c.args.slots.now.items in
    let s = c.index-slot.result.now in
    let n = c.args.count in
    let lacks = subst (λ z. CannotPart c.args.shape c.args.root (seen_slots z) n (range_count (drop n s.pending.0))) c.as_slice.ensures.value (c.can_split.ensures.none c.if-not-can_split.true) in
    (refl, no_room g.U.Update.means c.args.shape c.args.root c.args.i xs s c.requires.bound c.index-slot.ensures n c.args.entries.items (c.requires.may s c.index-slot.ensures) (c.requires.after s c.index-slot.ensures) c.requires.rising c.requires.many lacks)

pub can_split-requires : goal.can_split-requires
can_split-requires g c = after_some g.U.Update.means c.args.count c.index-slot.result.now.pending.0 c.index-slot.result.now.child.value c.args.entries.items (c.requires.after c.index-slot.result.now c.index-slot.ensures)

pub split_leaf_slot-requires-clause-enough : goal.split_leaf_slot-requires-clause-enough
split_leaf_slot-requires-clause-enough g c =
    let t = c.index_mut-slot.result.now in
    let at : t ≡ get_or c.args.slots.now.items c.args.i t = c.index_mut-slot.ensures.value ∙ ap (λ z. get_or z c.args.i t) c.reserve.ensures.items in
    after_some g.U.Update.means c.args.count t.pending.0 t.child.value c.args.entries.items (c.requires.after t at)

pub split_leaf_slot-requires-clause-two : goal.split_leaf_slot-requires-clause-two
split_leaf_slot-requires-clause-two g c = omega (arith, some_leaf c.args.shape c.requires.shape, c.requires.many)

pub returns : goal.returns
returns g c =
    let xs = c.args.slots.now.items in
    let i = c.args.i in
    let n = c.args.count in
    let s = c.index-slot.result.now in
    let t = c.index_mut-slot.result.now in
    let h = c.requires.bound in
    let at : t ≡ get_or xs i t = c.index_mut-slot.ensures.value ∙ ap (λ z. get_or z i t) c.reserve.ensures.items in
    let same : s ≡ t = c.index-slot.ensures ∙ get_or_default xs i s t h ∙ sym at in
    let u = subst (λ z. IsSearchable z.child.value) (sym at) (searchable_child xs i t h c.requires.searchable.1) in
    let room = subst (λ z. CanPart c.args.shape c.args.root (seen_slots z) n (range_count (drop n s.pending.0))) c.as_slice.ensures.value (c.can_split.ensures.room c.if-not-can_split.false) in
    let free = subst (λ (z : Slot g.row.U.Denot g.row.U-Value.Denot). CanPart c.args.shape c.args.root (seen_slots xs) n (range_count (drop n z.pending.0))) same room in
    let core = halved g.U.Update.means c.args.shape c.args.root i xs t h at n c.args.entries.items c.split_leaf_slot.new.slot c.in-Ok.back u (c.requires.may t at) (c.requires.after t at) c.requires.rising c.requires.many c.in-Ok.ensures.halves free in
    let now : c.insert.new.self.items ≡ insert (set xs i c.split_leaf_slot.new.slot) (suc i) c.in-Ok.back = (rw add-one at c.in-Ok-insert.ensures.items) ∙ ap (λ z. insert (set z i c.split_leaf_slot.new.slot) (suc i) c.in-Ok.back) c.reserve.ensures.items in
    subst (λ z. Replies g.U.Update.means FlushLeaf c.args.shape c.args.root i (Did n) (seen_slots xs) (seen_slots z)) (sym now) core
