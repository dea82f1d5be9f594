use Rattle.std.proofs.Common.{◌≡◌}
use Rattle.flush.proofs.leaf.up_to_overfull.Given as goal

abbrev pub invariant-loop-msg : goal.invariant-loop-msg
invariant-loop-msg g l = l.count ≡ l.msg-index
