use Rattle.std.proofs.Common.{take}
use Rattle.std.specs.Option.{option_copied}
use Rattle.message.specs.PointKeys.{IsPointStop}
use Rattle.pending.proofs.segment.next_point.Given as goal

abbrev pub invariant-loop-waiting : goal.invariant-loop-waiting
invariant-loop-waiting g l = IsPointStop (take l.waiting-index l.msgs) l.from (option_copied l.end) (option_copied l.stop)
