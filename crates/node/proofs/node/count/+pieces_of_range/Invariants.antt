use Rattle.std.proofs.Common.{length}
use Rattle.node.proofs.node.count.+pieces_of_range.Given as goal

abbrev pub decreases-pieces_of_range : goal.decreases-pieces_of_range
decreases-pieces_of_range g l = length l.slots.now
