use Rattle.std.proofs.Common.{refl, ap, sym, subst, ◌≤◌, ◌<◌, length, arith}
use Rattle.node.specs.StepRows.{can_flush_inner}
use Rattle.node.specs.declared.node.Slot.{Slot}
use Rattle.node.specs.Searchable.{IsSearchable}
use Rattle.node.proofs.Placing.{searchable_child}
use Rattle.node.proofs.Splice.{slots_from-past}
use Rattle.flush.proofs.InnerFlush.{flushed}
use Rattle.flush.proofs.inner.InnerFlushSlotStep.change.Goals as goal

pub returns-then-i-len : goal.returns-then-i-len
returns-then-i-len g c =
    let h : length c.args.slots.now.items ≤ c.args.i = omega arith in
    (refl, λ hi. ap can_flush_inner (slots_from-past c.args.slots.now.items c.args.i h))

pub push_oldest-requires : goal.push_oldest-requires
push_oldest-requires g c =
    let h : c.args.i < length c.args.slots.now.items = omega arith in
    subst (λ (s : Slot g.row.U.Denot g.row.U-Value.Denot). IsSearchable s.child.value) (sym c.index_mut-slot.ensures.value) (searchable_child c.args.slots.now.items c.args.i c.index_mut-slot.result.now h c.requires.searchable.1)

pub returns : goal.returns
returns g c =
    let h : c.args.i < length c.args.slots.now.items = omega arith in
    flushed g.U.Update.means c.args.shape c.args._root c.args.i c.args.slots.now.items c.index_mut-slot.result.now c.push_oldest.new.slot c.push_oldest.result h c.index_mut-slot.ensures.value c.push_oldest.ensures.lo c.push_oldest.ensures.left c.push_oldest.ensures.sunk
