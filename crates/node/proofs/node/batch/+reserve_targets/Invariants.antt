use Rattle.std.proofs.Common.{length}
use Rattle.node.proofs.node.batch.+reserve_targets.Given as goal

abbrev pub decreases-reserve_targets : goal.decreases-reserve_targets
decreases-reserve_targets g l = length l.msgs.now
