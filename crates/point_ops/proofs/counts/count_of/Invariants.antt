use Rattle.std.proofs.Common.{◌≡◌, ◌+◌, length}
use Rattle.point_ops.specs.PointOps.{point_count}
use Rattle.point_ops.proofs.counts.count_of.Given as goal

abbrev pub invariant-loop-run : goal.invariant-loop-run
invariant-loop-run g l = l.count + point_count l.walk ≡ point_count l.rows

abbrev pub decreases-loop-run : goal.decreases-loop-run
decreases-loop-run g l = length l.walk
