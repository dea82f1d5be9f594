use Rattle.std.proofs.Common.{ap, arith}
use Rattle.point_ops.specs.PointOps.{point_count}
use Rattle.point_ops.proofs.Laying.{counted_put, runs_put}
use Rattle.point_ops.proofs.points.PointOps.overwrite.Goals as goal

pub overflow_sub-self : goal.overflow_sub-self
overflow_sub-self g c =
    let put = c.in_ok-replaced.ensures in
    omega (arith, counted_put c.args.key c.args.run c.self.inside.rows c.put.new.self c.in_ok-replaced.replaced c.len_of.result c.assert_invariant.ensures put.0 put.1 c.len_of.ensures, c.self.invariant.counted, c.requires.one)

pub invariant_of-self-2 : goal.invariant_of-self-2
invariant_of-self-2 g c =
    let put = c.in_ok-replaced.ensures in
    record {
      runs = runs_put c.args.key c.args.run c.self.inside.rows c.put.new.self put.0 (omega (arith, c.requires.one)) c.self.invariant.runs;
      counted = omega (arith, counted_put c.args.key c.args.run c.self.inside.rows c.put.new.self c.in_ok-replaced.replaced c.len_of.result c.assert_invariant.ensures put.0 put.1 c.len_of.ensures, c.self.invariant.counted, c.requires.one);
      small = omega (arith, c.self.invariant.counted, c.requires.room, ap (λ t. point_count t) c.self.view_is);
    }

pub returns-clause-bound : goal.returns-clause-bound
returns-clause-bound g c =
    let put = c.in_ok-replaced.ensures in
    omega (arith, counted_put c.args.key c.args.run c.self.inside.rows c.put.new.self c.in_ok-replaced.replaced c.len_of.result c.assert_invariant.ensures put.0 put.1 c.len_of.ensures, c.requires.one, ap (λ t. point_count t) c.self.view_is)
