use Rattle.std.proofs.Common.{length}
use Rattle.reference.proofs.plain.walk.+walk.Given as goal

-- how many names are left
abbrev pub decreases-walk : goal.decreases-walk
decreases-walk l = length l.names
