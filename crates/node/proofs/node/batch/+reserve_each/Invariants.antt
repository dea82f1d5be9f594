use Rattle.std.proofs.Common.{length}
use Rattle.node.proofs.node.batch.+reserve_each.Given as goal

abbrev pub decreases-reserve_each : goal.decreases-reserve_each
decreases-reserve_each g l = length l.slots.now
