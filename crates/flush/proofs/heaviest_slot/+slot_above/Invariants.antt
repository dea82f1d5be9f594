use Rattle.std.proofs.Common.{length}
use Rattle.flush.proofs.heaviest_slot.+slot_above.Given as goal

abbrev pub decreases-slot_above : goal.decreases-slot_above
decreases-slot_above g l = length l.slots.now
