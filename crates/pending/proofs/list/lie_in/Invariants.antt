use Rattle.std.proofs.Common.{take}
use Rattle.std.specs.Option.{option_copied}
use Rattle.message.specs.Cuts.{LieIn}
use Rattle.pending.proofs.list.lie_in.Given as goal

abbrev pub invariant-loop-waiting : goal.invariant-loop-waiting
invariant-loop-waiting g l = LieIn l.lo (option_copied l.hi) (take l.waiting-index l.msgs)
