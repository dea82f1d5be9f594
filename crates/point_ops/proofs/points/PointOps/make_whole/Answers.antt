use Rattle.std.proofs.Common.{ap, arith, sym, subst}
use Rattle.point_ops.specs.PointOps.{point_count, AreRuns, IsLeft}
use Rattle.point_ops.proofs.Parting.{counted_left, runs_left}
use Rattle.point_ops.proofs.points.PointOps.make_whole.Goals as goal

pub invariant_of-self-2 : goal.invariant_of-self-2
invariant_of-self-2 g c =
    let n = c.args.consumed in
    let es = c.self.inside.rows in
    let is = c.in_ok-shorten_first.ensures.ok in
    let fits = subst (λ t. IsLeft n t) (sym c.self.view_is) c.requires in
    record {
      runs = subst (λ t. AreRuns t) (sym is) (runs_left n es fits c.self.invariant.runs);
      counted = omega (arith, counted_left n es fits, ap (λ t. point_count t) is, c.self.invariant.counted);
      small = omega (arith, c.self.invariant.small);
    }
