use Rattle.std.proofs.Common.{◌≤◌, length, None, arith}
use Rattle.node.proofs.Grafting.{at_bound, at_read, slot_grafted}
use Rattle.node.proofs.tree.install_subtree.install_in_slot.Goals as goal

pub returns-then-i-slots : goal.returns-then-i-slots
returns-then-i-slots g c = absurd (omega (arith, at_bound (λ lo hi ms n. c.args.count ≤ length ms) c.args.slots.now c.args.i None c.requires))

pub replace_child-requires : goal.replace_child-requires
replace_child-requires g c = at_read (λ lo hi ms n. c.args.count ≤ length ms) c.args.slots.now c.args.i c.index-slots-i.result None c.requires

pub returns : goal.returns
returns g c =
    let has = at_read (λ lo hi ms n. c.args.count ≤ length ms) c.args.slots.now c.args.i c.index-slots-i.result None c.requires in
    let e = c.replace_child.ensures in
    slot_grafted c.args.slots.now c.args.i c.args.count c.index-slots-i.result c.replace_child.new.slot c.args.subtree.value (omega arith) has e.lo e.left e.child
