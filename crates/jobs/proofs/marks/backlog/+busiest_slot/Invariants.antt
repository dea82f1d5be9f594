use Rattle.std.proofs.Common.{length}
use Rattle.jobs.proofs.marks.backlog.+busiest_slot.Given as goal

abbrev pub decreases-busiest_slot : goal.decreases-busiest_slot
decreases-busiest_slot g l = length l.slots.now
