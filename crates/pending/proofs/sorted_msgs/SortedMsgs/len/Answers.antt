use Rattle.std.proofs.Common.{ap, length, arith}
use Rattle.point_ops.specs.PointOps.{left}
use Rattle.pending.proofs.Meaning.{length-sorted}
use Rattle.point_ops.proofs.Parting.{counted_left}
use Rattle.pending.proofs.sorted_msgs.SortedMsgs.len.Goals as goal

pub returns-clause-len : goal.returns-clause-len
returns-clause-len g c =
    let es = c.self.inside.points in
    let n = c.self.inside.consumed in
    omega (arith, c.len.ensures, c.len-2.ensures.len, length-sorted c.self.inside.ranges (left n es), ap length c.self.view_is, counted_left n es c.self.invariant.some)
