use Rattle.std.proofs.Common.{arith, ap, sym, ◌∙◌, ◌≡◌, ◌≤◌, ◌<◌, length}
use Rattle.node.specs.StepRows.{can_flush_leaf}
use Rattle.node.specs.Pure.{is_leaf}
use Rattle.node.proofs.Splice.{slots_from-past}
use Rattle.flush.proofs.Flushable.{can_flush_leaf-empty, can_flush_leaf-is}
use Rattle.flush.proofs.leaf.LeafFlushSlotStep.applies.Goals as goal

pub returns-then-i-slots : goal.returns-then-i-slots
returns-then-i-slots g c =
    let h : length c.args.slots.now ≤ c.args.i = omega arith in
    sym (ap can_flush_leaf (slots_from-past c.args.slots.now c.args.i h))

pub returns-then-len-eq0 : goal.returns-then-len-eq0
returns-then-len-eq0 g c =
    let s = c.index-slots-i.result in
    let h : c.args.i < length c.args.slots.now = omega arith in
    let z : length s.pending.0 ≡ 0 = omega (arith, c.len.ensures) in
    sym (can_flush_leaf-empty c.args.slots.now c.args.i s h c.index-slots-i.is z)

pub returns : goal.returns
returns g c =
    let s = c.index-slots-i.result in
    let h : c.args.i < length c.args.slots.now = omega arith in
    let z : 0 < length s.pending.0 = omega (arith, c.len.ensures) in
    c.is_leaf.ensures ∙ ap is_leaf c.deref.ensures ∙ sym (can_flush_leaf-is c.args.slots.now c.args.i s h c.index-slots-i.is z)
