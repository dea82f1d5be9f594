use Rattle.std.proofs.Common.{◌≡◌, take}
use Rattle.change_log.specs.Touched.{with_msgs}
use Rattle.change_log.proofs.key_log.KeyLog.note.Given as goal

abbrev pub invariant-loop-msg : goal.invariant-loop-msg
invariant-loop-msg g l = l.self ≡ with_msgs (take l.msg-index l.msgs) l.initial.self
