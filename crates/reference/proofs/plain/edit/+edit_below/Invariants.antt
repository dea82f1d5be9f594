use Rattle.std.proofs.Common.{length}
use Rattle.reference.proofs.plain.edit.+edit_below.Given as goal

-- how many names are left
abbrev pub decreases-edit_below : goal.decreases-edit_below
decreases-edit_below l = length l.rest
