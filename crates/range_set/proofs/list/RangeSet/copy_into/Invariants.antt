use Rattle.std.proofs.Common.{◌≡◌, ◌++◌, take, length}
use Rattle.range_set.specs.Disjoint.{range_msgs}
use Rattle.range_set.proofs.list.RangeSet.copy_into.Given as goal

abbrev pub invariant-loop-ranges : goal.invariant-loop-ranges
invariant-loop-ranges g l = take l.count (l.front.items ++ range_msgs l.ranges) ≡ take l.count (l.fn.front.items ++ range_msgs l.self)

abbrev pub decreases-loop-ranges : goal.decreases-loop-ranges
decreases-loop-ranges g l = length l.ranges
