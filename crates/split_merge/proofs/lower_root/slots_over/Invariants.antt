use Rattle.std.proofs.Common.{length}
use Rattle.split_merge.proofs.RootDown.{LeavesRest}
use Rattle.split_merge.proofs.lower_root.slots_over.Given as goal

abbrev pub invariant-slots : goal.invariant-slots
invariant-slots g l = LeavesRest g.U.Update.means l.list.0 l.rest l.all.items l.slots

abbrev pub decreases-slots : goal.decreases-slots
decreases-slots g l = length l.rest
