use Rattle.std.proofs.Common.{◌+◌, ◌*◌, ◌<◌, length}
use Rattle.message.specs.Stretches.{all_ends}
use Rattle.scan.specs.Stretches.{slot_value}
use Rattle.std.specs.Option.{option_copied}
use Rattle.node.specs.Meaning.{value}
use Rattle.node.specs.Pure.{depth}
use Rattle.scan.proofs.Ahead.{ahead, search_ends}
use Rattle.scan.proofs.Joins.{HasWalked}
use Rattle.scan.proofs.walk.+walk.Given as goal

abbrev pub decreases-walk : goal.decreases-walk
decreases-walk g l = 4 * depth l.node.now

abbrev pub decreases-walk_slot : goal.decreases-walk_slot
decreases-walk_slot g l = 4 * depth l.slot.now.child.value + 3

abbrev pub decreases-walk_rounds : goal.decreases-walk_rounds
decreases-walk_rounds g l = 4 * depth l.slot.now.child.value + 2

abbrev pub decreases-round : goal.decreases-round
decreases-round g l = 4 * depth l.slot.now.child.value + 1

abbrev pub invariant-walk-stretches : goal.invariant-walk-stretches
invariant-walk-stretches g l = HasWalked (value g.U.Update.means l.node) l.lo (option_copied l.hi) l.limit l.from l.fn.pairs.items l.pairs.items

abbrev pub decreases-walk-stretches : goal.decreases-walk-stretches
decreases-walk-stretches g l = ahead l.from (search_ends (option_copied l.hi) l.slots.items)

abbrev pub invariant-walk_rounds-rounds : goal.invariant-walk_rounds-rounds
invariant-walk_rounds-rounds g l = record {
  walked : HasWalked (slot_value g.U.Update.means l.slot) l.from (option_copied l.stop) l.limit l.at l.fn.pairs.items l.pairs.items;
  room : length l.pairs.items < l.limit;
}

abbrev pub decreases-walk_rounds-rounds : goal.decreases-walk_rounds-rounds
decreases-walk_rounds-rounds g l = ahead l.at (all_ends l.slot.pending.0)
