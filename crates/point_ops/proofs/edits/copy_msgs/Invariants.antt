use Rattle.std.proofs.Common.{◌≡◌, ◌++◌, take, drop, map}
use Rattle.message.specs.declared.msg.Msg.TheVariants as msg
use Rattle.point_ops.proofs.edits.copy_msgs.Given as goal

abbrev pub invariant-loop-update : goal.invariant-loop-update
invariant-loop-update g l = take l.count (l.front.items ++ map (msg.Edit l.key) (drop l.update-index l.updates)) ≡ take l.count (l.initial.front.items ++ map (msg.Edit l.key) l.updates)
