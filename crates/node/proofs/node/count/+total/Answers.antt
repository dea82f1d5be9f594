use Rattle.std.proofs.Common.{◌<◌, ap, length, arith}
use Rattle.node.specs.Report.{total}
use Rattle.node.proofs.Sizes.{total_below-take}
use Rattle.node.proofs.node.count.+total.Goals as goal

pub loop-slot-preserved : goal.loop-slot-preserved
loop-slot-preserved g t c =
    let q = c.args.quantity in
    let xs = c.as_slice-slot-items.result.now in
    let i = c.loop-slot.slot-index in
    let s = c.slot-item.result in
    let h : i < length xs = omega arith in
    let more = total_below-take q xs i s h in
    let at = ap (λ z. total q z.child.value) c.slot-item.is in
    let child = ap (total q) c.deref.ensures in
    record {
      at_most = omega (arith, more, at, child, c.total.ensures.at_most, c.loop-slot.invariant.at_most, c.saturating_add-sum.ensures);
      exact = λ small.
          let below = c.total.ensures.exact (omega (arith, small, c.saturating_add-sum.ensures)) in
          let before = c.loop-slot.invariant.exact (omega (arith, small, c.saturating_add-sum.ensures)) in
          omega (arith, small, more, at, child, below, before, c.saturating_add-sum.ensures);
    }
