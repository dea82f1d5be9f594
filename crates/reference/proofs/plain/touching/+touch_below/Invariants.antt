use Rattle.std.proofs.Common.{length}
use Rattle.reference.proofs.plain.touching.+touch_below.Given as goal

-- how many names are left
abbrev pub decreases-touch_below : goal.decreases-touch_below
decreases-touch_below l = length l.names
