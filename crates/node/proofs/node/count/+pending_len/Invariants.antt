use Rattle.std.proofs.Common.{length}
use Rattle.node.proofs.node.count.+pending_len.Given as goal

abbrev pub decreases-pending_len : goal.decreases-pending_len
decreases-pending_len g l = length l.slots.now
