use Rattle.std.proofs.Common.{refl, ap, ◌≤◌, ◌<◌, length, arith}
use Rattle.node.specs.StepRows.{can_drop_covered}
use Rattle.node.proofs.Splice.{slots_from-past}
use Rattle.split_merge.proofs.Covered.{dropped}
use Rattle.split_merge.proofs.drop_subtree.CoveredDropSlotStep.change.Goals as goal

pub returns-then-i-len : goal.returns-then-i-len
returns-then-i-len g c =
    let h : length c.args.slots.now.items ≤ c.args.i = omega arith in
    (refl, λ hi. ap (can_drop_covered hi) (slots_from-past c.args.slots.now.items c.args.i h))

pub returns : goal.returns
returns g c =
    let h : c.args.i < length c.args.slots.now.items = omega arith in
    dropped g.U.Update.means c.args._shape c.args._root c.args.i c.args.slots.now.items c.index_mut-slot.result.now _ c.clear_slot.result h c.index_mut-slot.ensures.value refl c.clear_slot.ensures
