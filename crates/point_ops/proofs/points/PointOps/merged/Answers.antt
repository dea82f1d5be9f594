use Rattle.std.proofs.Common.{ap, arith}
use Rattle.point_ops.specs.PointOps.{point_count}
use Rattle.point_ops.proofs.Parting.{counted_parts, runs_joined}
use Rattle.point_ops.proofs.points.PointOps.merged.Goals as goal

pub invariant_of-result : goal.invariant_of-result
invariant_of-result g c =
    let fs = c.append.new.self in
    let es = c.self.inside.rows in
    let later = c.newer.inside.rows in
    let counted = counted_parts fs es later c.in_ok-append.ensures.entries in
    record {
      runs = runs_joined fs es later c.in_ok-append.ensures.entries c.self.invariant.runs c.newer.invariant.runs;
      counted = omega (arith, counted, c.self.invariant.counted, c.newer.invariant.counted);
      small = omega (arith, c.requires.small, c.self.invariant.counted, c.newer.invariant.counted, ap (λ t. point_count t) c.self.view_is, ap (λ t. point_count t) c.newer.view_is);
    }
