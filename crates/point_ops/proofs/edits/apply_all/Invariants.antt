use Rattle.std.proofs.Common.{◌≡◌, take}
use Rattle.point_ops.specs.KeyOps.{edits_effect}
use Rattle.point_ops.proofs.edits.apply_all.Given as goal

abbrev pub invariant-loop-update : goal.invariant-loop-update
invariant-loop-update g l = l.value ≡ edits_effect g.U.Update.means (take l.update-index l.updates) l.initial.value
