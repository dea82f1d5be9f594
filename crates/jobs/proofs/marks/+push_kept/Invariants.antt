use Rattle.std.proofs.Common.{length}
use Rattle.jobs.proofs.marks.+push_kept.Given as goal

abbrev pub decreases-push_kept : goal.decreases-push_kept
decreases-push_kept g l = length l.slots.now
