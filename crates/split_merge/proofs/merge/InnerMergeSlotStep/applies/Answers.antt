use Rattle.std.proofs.Common.{arith, ap, sym, ◌∙◌, ◌≡◌, ◌≤◌, ◌<◌, length, suc, true, false, not, add-one}
use Rattle.std.specs.Prelude.{◌&&◌}
use Rattle.node.specs.Pure.{is_leaf}
use Rattle.split_merge.proofs.Mergeable.{can_merge_inner-last, can_merge_inner-is}
use Rattle.split_merge.proofs.merge.InnerMergeSlotStep.applies.Goals as goal

pub returns-then-not-has_next : goal.returns-then-not-has_next
returns-then-not-has_next g c =
    let few : length c.args.slots.now ≤ suc c.args.i = omega (arith, c.has_next.ensures.no c.if-not-has_next.true) in
    sym (can_merge_inner-last c.args.slots.now c.args.i few)

pub returns-then-not-is_leaf : goal.returns-then-not-is_leaf
returns-then-not-is_leaf g c =
    let s = c.index-slots-i.result in
    let t = c.index-slots-i-2.result in
    let h : suc c.args.i < length c.args.slots.now = omega (arith, c.has_next.ensures.yes c.if-not-has_next.false) in
    let first : is_leaf s.child.value ≡ false = sym (c.is_leaf.ensures ∙ ap is_leaf c.deref.ensures) ∙ c.if-not-is_leaf.true in
    ap not (c.is_leaf-then-not-is_leaf.ensures ∙ ap is_leaf c.deref-then-not-is_leaf.ensures) ∙ ap (λ z. not z && not (is_leaf t.child.value)) (sym first) ∙ sym (can_merge_inner-is c.args.slots.now c.args.i s t h c.index-slots-i.is (rw add-one at c.index-slots-i-2.is))

pub returns-else-not-is_leaf : goal.returns-else-not-is_leaf
returns-else-not-is_leaf g c =
    let s = c.index-slots-i.result in
    let t = c.index-slots-i-2.result in
    let h : suc c.args.i < length c.args.slots.now = omega (arith, c.has_next.ensures.yes c.if-not-has_next.false) in
    let first : is_leaf s.child.value ≡ true = sym (c.is_leaf.ensures ∙ ap is_leaf c.deref.ensures) ∙ c.if-not-is_leaf.false in
    ap not c.if-not-is_leaf.false ∙ ap (λ z. not z && not (is_leaf t.child.value)) (sym first) ∙ sym (can_merge_inner-is c.args.slots.now c.args.i s t h c.index-slots-i.is (rw add-one at c.index-slots-i-2.is))
