use Rattle.std.proofs.Common.{ap, sym, ◌∙◌, ◌≤◌, ◌<◌, length, arith}
use Rattle.std.specs.Option.{option_copied}
use Rattle.node.specs.StepRows.{can_drop_covered}
use Rattle.node.proofs.Splice.{slots_from-past}
use Rattle.split_merge.proofs.Covered.{slots_from-cut}
use Rattle.split_merge.proofs.drop_subtree.CoveredDropSlotStep.applies.Goals as goal

pub returns-then-i-slots : goal.returns-then-i-slots
returns-then-i-slots g c =
    let h : length c.args.slots.now ≤ c.args.i = omega arith in
    sym (ap (can_drop_covered (option_copied c.args.hi)) (slots_from-past c.args.slots.now c.args.i h))

pub returns : goal.returns
returns g c =
    let h : c.args.i < length c.args.slots.now = omega arith in
    c.is_first_covered.ensures ∙ sym (ap (can_drop_covered (option_copied c.args.hi)) (slots_from-cut c.args.slots.now c.args.i h))
