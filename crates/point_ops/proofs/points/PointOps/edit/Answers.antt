use Rattle.std.proofs.Common.{◌∙◌, Some, ap, subst, sym, arith}
use Rattle.std.specs.BTreeMap.{insert_entry}
use Rattle.pathkey.specs.Order.{by_bytes}
use Rattle.point_ops.specs.PointOps.{found_effect, point_count, ArePoints, Inserts}
use Rattle.point_ops.proofs.Laying.{inserts_put, counted_at, counted_put, put_same, runs_put}
use Rattle.point_ops.proofs.points.PointOps.edit.Goals as goal

pub overflow_sub-self : goal.overflow_sub-self
overflow_sub-self g c =
    let h = rw c.in-Done-Ok.field-0-is at c.in-Done-Ok.ensures in
    omega (arith, counted_at c.args.key c.self.inside.rows h.old h.there, h.done.counted.0, c.self.invariant.counted)

pub invariant_of-self : goal.invariant_of-self
invariant_of-self g c =
    let h = rw c.in-Done-Ok.field-0-is at c.in-Done-Ok.ensures in
    let k = c.args.key in
    let es = c.self.inside.rows in
    let within = counted_at k es h.old h.there in
    record {
      runs = runs_put k h.new es c.edit.new.self h.is h.done.some c.self.invariant.runs;
      counted = omega (arith, counted_put k h.new es c.edit.new.self (Some h.old) c.in-Done-Ok.before c.assert_invariant.ensures h.is (sym h.there) h.done.counted.0, h.done.counted.0, h.done.counted.1, within, c.self.invariant.counted);
      small = omega (arith, within, h.done.counted.0, h.done.counted.1, h.done.bound, c.self.invariant.counted, c.requires, ap (λ t. point_count t) c.self.view_is);
    }

pub invariant_of-self-in-Done-Err : goal.invariant_of-self-in-Done-Err
invariant_of-self-in-Done-Err g c =
    let h = rw c.in-Done-Err.field-0-is at c.in-Done-Err.ensures in
    let es = c.self.inside.rows in
    let same = h.is ∙ ap (λ t. insert_entry by_bytes es c.args.key t) h.done.unchanged ∙ put_same c.args.key h.old es c.assert_invariant.ensures h.there in
    subst (λ t. ArePoints t c.self.inside.count) (sym same) c.self.invariant

pub returns-in-Done-Ok-clause-inserts : goal.returns-in-Done-Ok-clause-inserts
returns-in-Done-Ok-clause-inserts g c =
    let means = g.U.Update.means in
    let u = c.args.update in
    let k = c.args.key in
    let h = rw c.in-Done-Ok.field-0-is at c.in-Done-Ok.ensures in
    subst (λ t. Inserts means k (means u) t c.edit.new.self) c.self.view_is (inserts_put means k (means u) h.new c.self.inside.rows c.edit.new.self h.is (λ o. h.done.meaning o ∙ sym (ap (λ t. means u (found_effect means t o)) h.there)))

pub returns-in-Done-Ok-clause-bound : goal.returns-in-Done-Ok-clause-bound
returns-in-Done-Ok-clause-bound g c =
    let h = rw c.in-Done-Ok.field-0-is at c.in-Done-Ok.ensures in
    let counted = counted_put c.args.key h.new c.self.inside.rows c.edit.new.self (Some h.old) c.in-Done-Ok.before c.assert_invariant.ensures h.is (sym h.there) h.done.counted.0 in
    omega (arith, counted, h.done.counted.0, h.done.bound, ap (λ t. point_count t) c.self.view_is)

pub returns-in-Done-Err-clause-unchanged : goal.returns-in-Done-Err-clause-unchanged
returns-in-Done-Err-clause-unchanged g c =
    let h = rw c.in-Done-Err.field-0-is at c.in-Done-Err.ensures in
    let es = c.self.inside.rows in
    h.is ∙ ap (λ t. insert_entry by_bytes es c.args.key t) h.done.unchanged ∙ put_same c.args.key h.old es c.assert_invariant.ensures h.there ∙ c.self.view_is
