use Rattle.std.proofs.Common.{◌∙◌, ap, sym, drop, arith, subst}
use Rattle.point_ops.specs.PointOps.{point_count, point_msgs, IsLeft}
use Rattle.point_ops.proofs.Parting.{counted_drop, msgs_dropped, runs_drop}
use Rattle.point_ops.proofs.points.PointOps.drop_oldest.Goals as goal

pub invariant_of-self : goal.invariant_of-self
invariant_of-self g c =
    let es = c.self.inside.rows in
    let n = c.whole_keys-keys.result.0 in
    let counted = counted_drop es c.drop_front.new.self n c.drop_front.ensures in
    record {
      runs = runs_drop n es c.drop_front.new.self c.drop_front.ensures c.self.invariant.runs;
      counted = omega (arith, counted, c.whole_keys-keys.ensures.counted, c.self.invariant.counted);
      small = omega (arith, c.self.invariant.small);
    }

pub returns-clause-same : goal.returns-clause-same
returns-clause-same g c =
    let es = c.self.inside.rows in
    let n = c.whole_keys-keys.result.0 in
    let left = c.whole_keys-keys.result.1 in
    msgs_dropped n left c.args.count es c.drop_front.new.self c.whole_keys-keys.ensures.keys c.drop_front.ensures (subst (λ t. IsLeft left t) (sym c.drop_front.ensures) c.whole_keys-keys.ensures.left) c.whole_keys-keys.ensures.counted
    ∙ ap (λ t. drop c.args.count (point_msgs t)) c.self.view_is

pub returns-clause-bound : goal.returns-clause-bound
returns-clause-bound g c =
    let counted = counted_drop c.self.inside.rows c.drop_front.new.self c.whole_keys-keys.result.0 c.drop_front.ensures in
    omega (arith, counted, ap (λ t. point_count t) c.self.view_is)
