use Rattle.std.proofs.Common.{length}
use Rattle.flush.proofs.heaviest_slot.+own_slot.Given as goal

abbrev pub decreases-own_slot : goal.decreases-own_slot
decreases-own_slot g l = length l.slots.now
