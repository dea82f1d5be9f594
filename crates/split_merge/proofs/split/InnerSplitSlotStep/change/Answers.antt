use Rattle.std.proofs.Common.{suc, refl, ap, sym, subst, ◌≡◌, ◌≤◌, ◌<◌, length, get_or, arith, ◌∙◌, add-one}
use Rattle.std.proofs.Math.ListN.{set}
use Rattle.std.specs.List.{insert}
use Rattle.std.proofs.lemmas.List.{get_or_default}
use Rattle.node.specs.declared.node.Slot.{Slot}
use Rattle.node.specs.declared.step.StepReply.TheVariants.{Did}
use Rattle.node.specs.declared.step.StepKind.TheVariants.{SplitInner}
use Rattle.node.specs.See.{seen_slots}
use Rattle.node.specs.StepRows.{can_split_inner, is_divisible}
use Rattle.node.specs.Steps.{Replies}
use Rattle.node.proofs.Splice.{slots_from-past}
use Rattle.split_merge.specs.SplitNode.{AreHalves}
use Rattle.split_merge.proofs.InnerSplit.{halved}
use Rattle.split_merge.proofs.Splittable.{can_split_inner-is}
use Rattle.split_merge.proofs.split.InnerSplitSlotStep.change.Goals as goal

pub returns-then-i-len : goal.returns-then-i-len
returns-then-i-len g c =
    let h : length c.args.slots.now.items ≤ c.args.i = omega arith in
    (refl, λ hi. ap can_split_inner (slots_from-past c.args.slots.now.items c.args.i h))

pub returns-in_default-halves : goal.returns-in_default-halves
returns-in_default-halves g c =
    let xs = c.args.slots.now.items in
    let h : c.args.i < length xs = omega arith in
    (refl, λ hi. can_split_inner-is xs c.args.i c.index.result.now h c.index.ensures ∙ ap is_divisible (sym c.deref.ensures) ∙ (rw c.in_default-halves.is at c.in-Ok.ensures))

pub returns : goal.returns
returns g c =
    let xs = c.args.slots.now.items in
    let h : c.args.i < length xs = omega arith in
    let s = c.index.result.now in
    let t = c.index_mut.result.now in
    let at : t ≡ get_or xs c.args.i t = c.index_mut.ensures.value ∙ ap (λ z. get_or z c.args.i t) c.reserve.ensures.items in
    let same : s ≡ t = c.index.ensures ∙ get_or_default xs c.args.i s t h ∙ sym at in
    let halves : AreHalves t.child.value c.in-Some.field-0 = subst (λ n. AreHalves n c.in-Some.field-0) (c.deref.ensures ∙ ap (λ (y : Slot g.row.U.Denot g.row.U-Value.Denot). y.child.value) same) (rw c.in-Some.is at c.in-Ok.ensures) in
    let core = halved g.U.Update.means c.args._shape c.args._root c.args.i xs c.in-Some.field-0 t c.split_slot.new.slot c.in-Ok-split_slot.back h at halves c.in-Ok-split_slot.ensures.cut in
    let now : c.insert.new.self.items ≡ insert (set xs c.args.i c.split_slot.new.slot) (suc c.args.i) c.in-Ok-split_slot.back = (rw add-one at c.in-Ok-insert.ensures.items) ∙ ap (λ z. insert (set z c.args.i c.split_slot.new.slot) (suc c.args.i) c.in-Ok-split_slot.back) c.reserve.ensures.items in
    subst (λ z. Replies g.U.Update.means SplitInner c.args._shape c.args._root c.args.i (Did 0) (seen_slots xs) (seen_slots z)) (sym now) core
