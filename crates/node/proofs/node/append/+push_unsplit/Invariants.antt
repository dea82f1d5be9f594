use Rattle.std.proofs.Common.{length}
use Rattle.node.proofs.node.append.+push_unsplit.Given as goal

abbrev pub decreases-push_unsplit : goal.decreases-push_unsplit
decreases-push_unsplit g l = length l.msgs.now
