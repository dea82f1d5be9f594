use Rattle.std.proofs.Common.{length}
use Rattle.reference.proofs.plain.walk.+walk_to_parent.Given as goal

-- how many names are left
abbrev pub decreases-walk_to_parent : goal.decreases-walk_to_parent
decreases-walk_to_parent l = length l.rest
