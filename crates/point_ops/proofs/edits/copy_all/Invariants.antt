use Rattle.std.proofs.Common.{◌≡◌, take}
use Rattle.point_ops.proofs.edits.copy_all.Given as goal

abbrev pub invariant-loop-update : goal.invariant-loop-update
invariant-loop-update g l = l.copy.items ≡ take l.update-index l.updates
