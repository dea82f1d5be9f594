use Rattle.std.proofs.Common.{length}
use Rattle.node.proofs.node.append.+make_lists_sharable.Given as goal

abbrev pub decreases-make_lists_sharable : goal.decreases-make_lists_sharable
decreases-make_lists_sharable g l = length l.slots.now
