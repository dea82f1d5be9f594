use Rattle.std.proofs.Common.{length}
use Rattle.jobs.proofs.marks.+kept_at.Given as goal

abbrev pub decreases-kept_at : goal.decreases-kept_at
decreases-kept_at l = length l.marks.now
