use Rattle.std.proofs.Common.{arith}
use Rattle.point_ops.proofs.Parting.{counted_parts, runs_back, runs_front}
use Rattle.point_ops.proofs.points.PointOps.split_off.Goals as goal

pub invariant_of-self-2 : goal.invariant_of-self-2
invariant_of-self-2 g c =
    let es = c.self.inside.rows in
    let parts = c.in_ok-rows.ensures.parts in
    record {
      runs = runs_front es c.split_off.new.self c.in_ok-rows.rows parts c.self.invariant.runs;
      counted = omega (arith, counted_parts es c.split_off.new.self c.in_ok-rows.rows parts, c.count_of-count.ensures, c.self.invariant.counted);
      small = omega (arith, c.self.invariant.small);
    }

pub invariant_of-result : goal.invariant_of-result
invariant_of-result g c =
    let es = c.self.inside.rows in
    let parts = c.in_ok-rows.ensures.parts in
    record {
      runs = runs_back es c.split_off.new.self c.in_ok-rows.rows parts c.self.invariant.runs;
      counted = c.count_of-count.ensures;
      small = omega (arith, counted_parts es c.split_off.new.self c.in_ok-rows.rows parts, c.count_of-count.ensures, c.self.invariant.counted, c.self.invariant.small);
    }
