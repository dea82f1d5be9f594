use Rattle.std.proofs.Common.{length}
use Rattle.jobs.proofs.marks.+position.Given as goal

abbrev pub decreases-position : goal.decreases-position
decreases-position l = length l.marks.now
