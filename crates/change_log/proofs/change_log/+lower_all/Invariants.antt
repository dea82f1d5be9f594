use Rattle.std.proofs.Common.{length}
use Rattle.change_log.proofs.change_log.+lower_all.Given as goal

abbrev pub decreases-lower_all : goal.decreases-lower_all
decreases-lower_all l = length l.snapshots.now
