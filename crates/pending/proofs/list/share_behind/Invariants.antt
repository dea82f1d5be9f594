use Rattle.std.proofs.Common.{◌≡◌, ◌++◌, take}
use Rattle.pending.proofs.list.share_behind.Given as goal

abbrev pub invariant-loop-waiting : goal.invariant-loop-waiting
invariant-loop-waiting g l = l.back.items ≡ l.fn.back.items ++ take l.waiting-index l.msgs
