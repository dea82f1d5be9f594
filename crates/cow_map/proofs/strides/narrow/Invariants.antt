use Rattle.std.proofs.Common.{◌-◌, ◌≤◌, Bool, length}
use denote.Param.Always.{always_mut}
use Rattle.std.specs.Fn.{ComputesKey}
use Rattle.cow_map.specs.Striding.{IsBetween}
use Rattle.cow_map.proofs.strides.narrow.Given as goal

abbrev pub invariant-loop-low : goal.invariant-loop-low
invariant-loop-low g l = (l.low ≤ l.high) × (l.high ≤ length l.xs) × always_mut g.P.FnMut l.pred × ((p : g.row.T.Denot → Bool) → ComputesKey g.P.FnMut p l.initial.pred → IsBetween p l.xs l.fn.within.low l.fn.within.high → ComputesKey g.P.FnMut p l.pred × IsBetween p l.xs l.low l.high)

abbrev pub decreases-loop-low : goal.decreases-loop-low
decreases-loop-low g l = l.high - l.low
