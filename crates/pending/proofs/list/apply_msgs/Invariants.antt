use Rattle.std.proofs.Common.{◌≡◌, take}
use Rattle.message.specs.Effects.{effects}
use Rattle.pending.proofs.list.apply_msgs.Given as goal

abbrev pub invariant-loop-waiting : goal.invariant-loop-waiting
invariant-loop-waiting g l = l.value ≡ effects g.U.Update.means (take l.waiting-index l.msgs) l.key l.fn.old
