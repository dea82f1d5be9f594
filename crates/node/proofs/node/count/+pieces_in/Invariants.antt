use Rattle.std.proofs.Common.{length}
use Rattle.node.proofs.node.count.+pieces_in.Given as goal

abbrev pub decreases-pieces_in : goal.decreases-pieces_in
decreases-pieces_in g l = length l.slots.now
