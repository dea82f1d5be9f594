use Rattle.std.proofs.Common.{arith, ap, sym, ◌∙◌, ◌≤◌, ◌<◌, length}
use Rattle.node.specs.StepRows.{can_split_inner}
use Rattle.node.specs.StepRows.{is_divisible}
use Rattle.node.proofs.Splice.{slots_from-past}
use Rattle.split_merge.proofs.Splittable.{can_split_inner-is}
use Rattle.split_merge.proofs.split.InnerSplitSlotStep.applies.Goals as goal

pub returns-then-i-slots : goal.returns-then-i-slots
returns-then-i-slots g c =
    let h : length c.args.slots.now ≤ c.args.i = omega arith in
    sym (ap can_split_inner (slots_from-past c.args.slots.now c.args.i h))

pub returns : goal.returns
returns g c =
    let s = c.index-slots-i.result in
    let h : c.args.i < length c.args.slots.now = omega arith in
    c.is_divisible.ensures ∙ ap is_divisible c.deref.ensures ∙ sym (can_split_inner-is c.args.slots.now c.args.i s h c.index-slots-i.is)
