use Rattle.std.proofs.Common.{◌≡◌, ◌++◌, take}
use Rattle.pending.proofs.list.copy_behind.Given as goal

abbrev pub invariant-loop-waiting : goal.invariant-loop-waiting
invariant-loop-waiting g l = l.front.items ≡ l.fn.front.items ++ take l.waiting-index l.msgs
