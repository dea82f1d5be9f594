use Rattle.std.proofs.Common.{length}
use Rattle.node.proofs.node.descend.+descend.Given as goal

abbrev pub decreases-descend : goal.decreases-descend
decreases-descend g l = length l.place.now
