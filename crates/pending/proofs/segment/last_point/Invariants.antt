use Rattle.std.proofs.Common.{take}
use Rattle.std.specs.Option.{option_copied}
use Rattle.pending.specs.LastPoint.{IsLastPoint}
use Rattle.pending.proofs.segment.last_point.Given as goal

abbrev pub invariant-loop-waiting : goal.invariant-loop-waiting
invariant-loop-waiting g l = IsLastPoint (take l.waiting-index l.msgs) l.lo (option_copied l.hi) (option_copied l.last)
