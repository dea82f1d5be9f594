use Rattle.std.proofs.Common.{◌+◌, ◌*◌}
use Rattle.node.specs.Pure.{depth}
use Rattle.lookup.proofs.Found.{IsOnWay}
use Rattle.lookup.proofs.+find.Given as goal

abbrev pub decreases-find : goal.decreases-find
decreases-find g l = 2 * depth l.node.now

abbrev pub decreases-find_in : goal.decreases-find_in
decreases-find_in g l = 2 * depth l.slot.now.child.value + 1

abbrev pub invariant-find-loop-entries : goal.invariant-find-loop-entries
invariant-find-loop-entries g l = IsOnWay g.U.Update.means l.key l.fn.node l.node

abbrev pub decreases-find-loop-entries : goal.decreases-find-loop-entries
decreases-find-loop-entries g l = depth l.node
