use Rattle.std.proofs.Common.{arith, refl, sym, ◌∙◌, subst}
use Rattle.std.proofs.lemmas.List.{get_or_default}
use Rattle.node.specs.Searchable.{IsSearchable}
use Rattle.node.proofs.Placing.{searchable_child}
use Rattle.flush.specs.Leaf.{AfterOldest}
use Rattle.flush.proofs.OldestOf.{after_some, may_wait}
use Rattle.flush.proofs.LeafFlush.{not_there, kept}
use Rattle.flush.proofs.leaf.apply_oldest.Goals as goal

pub after_oldest-requires-clause-searchable : goal.after_oldest-requires-clause-searchable
after_oldest-requires-clause-searchable g c = subst (λ s. IsSearchable s.child.value) (sym c.index.ensures) (searchable_child c.args.slots.now.items c.args.i c.index.result.now c.requires.bound c.requires.searchable.1)

pub after_oldest-requires-clause-enough : goal.after_oldest-requires-clause-enough
after_oldest-requires-clause-enough g c = may_wait g.U.Update.means c.args.shape c.args.root _ c.args.count _ _ (c.requires.may c.index.result.now c.index.ensures)

pub returns-in_default-after : goal.returns-in_default-after
returns-in_default-after g c = (refl, λ hi. not_there g.U.Update.means c.args.shape c.args.root c.args.i c.args.slots.now.items c.index.result.now c.requires.bound c.index.ensures (rw c.in_default-after.is at c.in-Ok.ensures.found))

pub replace_leaf-requires : goal.replace_leaf-requires
replace_leaf-requires g c =
    let xs = c.args.slots.now.items in
    let s = c.index_mut.result.now in
    let one = c.index.ensures ∙ get_or_default xs c.args.i c.index.result.now s c.requires.bound ∙ sym c.index_mut.ensures.value in
    let found = rw c.in-Some.is at c.in-Ok.ensures.found in
    let after = subst (λ z. AfterOldest g.U.Update.means c.args.count z.pending.0 z.child.value c.in-Some.entries.items) one found in
    after_some g.U.Update.means c.args.count s.pending.0 s.child.value c.in-Some.entries.items after

pub returns-then-len-shape : goal.returns-then-len-shape
returns-then-len-shape g c =
    let xs = c.args.slots.now.items in
    let s = c.index_mut.result.now in
    let one = c.index.ensures ∙ get_or_default xs c.args.i c.index.result.now s c.requires.bound ∙ sym c.index_mut.ensures.value in
    let found = rw c.in-Some.is at c.in-Ok.ensures.found in
    let after = subst (λ z. AfterOldest g.U.Update.means c.args.count z.pending.0 z.child.value c.in-Some.entries.items) one found in
    let u = subst (λ s. IsSearchable s.child.value) (sym c.index_mut.ensures.value) (searchable_child xs c.args.i s c.requires.bound c.requires.searchable.1) in
    kept g.U.Update.means c.args.shape c.args.root c.args.i xs s c.requires.bound c.index_mut.ensures.value c.args.count c.replace_leaf.new.slot c.replace_leaf.result c.in-Some.entries.items c.replace_leaf.ensures u (c.requires.may s c.index_mut.ensures.value) after (rw c.in-Some.is at c.in-Ok.ensures.rising) (omega arith)
