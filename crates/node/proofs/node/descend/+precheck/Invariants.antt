use Rattle.std.proofs.Common.{length}
use Rattle.node.proofs.node.descend.+precheck.Given as goal

abbrev pub decreases-precheck : goal.decreases-precheck
decreases-precheck g l = length l.place.now
