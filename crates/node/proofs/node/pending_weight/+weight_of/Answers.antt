use Rattle.std.proofs.Common.{◌<◌, length, arith, subst, ◌∙◌}
use Rattle.node.specs.See.{see}
use Rattle.node.specs.Weights.{IsWeight}
use Rattle.node.proofs.Weighing.{weight-more}
use Rattle.node.proofs.node.pending_weight.+weight_of.Goals as goal
use Rattle.node.proofs.node.pending_weight.+weight_of.Goals.{in-Some, in-None}

pub loop-slot-preserved : goal.loop-slot-preserved
loop-slot-preserved g t c =
    let xs = c.as_slice-slot-items.result.now in
    let i = c.loop-slot.slot-index in
    let s = c.slot-item.result in
    let h : i < length xs = omega arith in
    let here : IsWeight c.match-child.below (see c.child.inside.body) = elim c.match-child.branch [
      | in-Some w ↦ rw w.below-is (rw w.in-Some.is at c.child.invariant)
      | in-None w ↦ rw w.below-is w.weight_of-below.ensures
    ] in
    let below = subst (IsWeight c.match-child.below) (c.child.view_is ∙ c.deref-child.ensures) here in
    weight-more xs i s c.len.result c.loop-slot.weight c.match-child.below c.with_slot-weight.result h c.slot-item.is c.len.ensures (omega arith) c.loop-slot.invariant below c.with_slot-weight.ensures.longest c.with_slot-weight.ensures.at_most c.with_slot-weight.ensures.exact
