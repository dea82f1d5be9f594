use Rattle.std.proofs.Common.{length}
use Rattle.node.proofs.node.batch.+place_in_all.Given as goal

abbrev pub decreases-place_in_all : goal.decreases-place_in_all
decreases-place_in_all g l = length l.slots.now
