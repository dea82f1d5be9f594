use Rattle.std.proofs.Common.{ap, arith}
use Rattle.point_ops.specs.PointOps.{point_count}
use Rattle.point_ops.proofs.Counting.{point_count-cons, runs_next}
use Rattle.point_ops.proofs.Laying.{runs_put}
use Rattle.point_ops.proofs.points.PointOps.take_first.Goals as goal

pub invariant_of-self-2 : goal.invariant_of-self-2
invariant_of-self-2 g c =
    let m = c.in_ok-came.ensures.moved in
    let t = m.takes.adds in
    record {
      runs = runs_put t.key t.run c.self.inside.rows c.move_first.new.rows m.takes.is (omega (arith, t.some, t.all)) c.self.invariant.runs;
      counted = omega (arith, m.counted, c.self.invariant.counted);
      small = omega (arith, t.few, c.requires, c.self.invariant.counted, ap (λ es. point_count es) c.self.view_is);
    }

pub invariant_of-from-2 : goal.invariant_of-from-2
invariant_of-from-2 g c =
    let t = c.in_ok-came.ensures.moved.takes.adds in
    record {
      runs = runs_next t.key t.run c.move_first.new.from c.from.inside.rows t.parts c.from.invariant.runs;
      counted = omega (arith, ap (λ es. point_count es) t.parts, point_count-cons t.key t.run c.move_first.new.from, t.all, c.from.invariant.counted);
      small = omega (arith, c.from.invariant.small);
    }
