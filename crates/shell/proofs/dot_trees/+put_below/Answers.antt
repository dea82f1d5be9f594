use Rattle.std.proofs.Common.{ap, sym, ◌∙◌, ◌≡◌, ◌<◌, arith}
use Rattle.node.specs.Pure.{inner, depth}
use Rattle.node.specs.See.{see, seen_slots}
use Rattle.shell.proofs.Depths.{child_falls}
use Rattle.shell.proofs.dot_trees.+put_below.Goals as goal

pub put_below-requires : goal.put_below-requires
put_below-requires g t c κs within =
    let xs = c.in-Inner.slots.items in
    let seen : inner (seen_slots xs) ≡ c.args.node.now = ap see (sym c.in-Inner.is) ∙ c.body.ensures in
    let falls : depth c.deref.result.now < depth c.args.node.now = child_falls xs c.as_slice-slot-items.result.now c.loop-slot.slot-index c.slot-item.result c.args.node.now c.deref.result.now seen c.as_slice-slot-items.ensures.value c.loop-slot-test.true c.slot-item.is c.deref.ensures in
    (omega (arith, falls), (within.0, within.1))
