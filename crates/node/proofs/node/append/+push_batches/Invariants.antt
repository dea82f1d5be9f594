use Rattle.std.proofs.Common.{length}
use Rattle.node.proofs.node.append.+push_batches.Given as goal

abbrev pub decreases-push_batches : goal.decreases-push_batches
decreases-push_batches g l = length l.slots.now
