use Rattle.std.proofs.Common.{length}
use Rattle.node.proofs.node.append.+condense_lists.Given as goal

abbrev pub decreases-condense_lists : goal.decreases-condense_lists
decreases-condense_lists g l = length l.slots.now
