use Rattle.std.proofs.Common.{◌+◌, ◌*◌}
use Rattle.std.specs.Option.{option_copied}
use Rattle.node.specs.Pure.{depth}
use Rattle.scan.proofs.Ahead.{ahead, search_ends}
use Rattle.scan.proofs.Searching.{HasPassed}
use Rattle.scan.proofs.search.+first.Given as goal

abbrev pub decreases-first : goal.decreases-first
decreases-first g l = 2 * depth l.node.now

abbrev pub decreases-first_of_slot : goal.decreases-first_of_slot
decreases-first_of_slot g l = 2 * depth l.slot.now.child.value + 1

abbrev pub invariant-first-stretches : goal.invariant-first-stretches
invariant-first-stretches g l = HasPassed g.U.Update.means l.node l.lo l.from

abbrev pub decreases-first-stretches : goal.decreases-first-stretches
decreases-first-stretches g l = ahead l.from (search_ends (option_copied l.hi) l.slots.items)
