use Rattle.std.proofs.Common.{◌≡◌, ◌∙◌, Some, ap, arith, length, refl, subst, sym}
use Rattle.std.specs.BTreeMap.{insert_entry}
use Rattle.std.proofs.lemmas.Bool.{OnFalse_at, OnTrue_at}
use Rattle.pathkey.specs.Order.{by_bytes}
use Rattle.cow_map.specs.Places.{at_key}
use Rattle.point_ops.specs.declared.join_reply.JoinReply.{JoinReply}
use Rattle.point_ops.specs.PointOps.{found_effect, point_count, ArePoints, Inserts, JoinsAt}
use Rattle.point_ops.proofs.Laying.{inserts_put, counted_put, put_same, runs_put}
use Rattle.point_ops.proofs.Updates.{single}
use Rattle.point_ops.proofs.points.PointOps.join.Goals.{in-Done-true, in-Done-false, in-Refused, in-Absent}
use Rattle.point_ops.proofs.points.PointOps.join.Goals as goal

pub invariant_of-self : goal.invariant_of-self
invariant_of-self g c =
    let k = c.args.key.now in
    let es = c.self.inside.rows in
    elim c.match-edit.branch [
      | in-Done-true w ↦
          let h = w.in-Done-true.ensures in
          let one : length h.old ≡ 1 = OnTrue_at w.in-Done-true.field-0-test h.done.one in
          let counted = counted_put k h.new es c.edit.new.self (Some h.old) (length h.old) c.assert_invariant.ensures h.is (sym h.there) refl in
          record {
            runs = runs_put k h.new es c.edit.new.self h.is (omega (arith, h.done.len, one)) c.self.invariant.runs;
            counted = omega (arith, counted, h.done.len, c.self.invariant.counted);
            small = c.self.invariant.small;
          }
      | in-Done-false w ↦
          let h = w.in-Done-false.ensures in
          let same : c.edit.new.self ≡ es = h.is ∙ ap (λ t. insert_entry by_bytes es k t) (OnFalse_at w.in-Done-false.field-0-test h.done.unchanged) ∙ put_same k h.old es c.assert_invariant.ensures h.there in
          subst (λ t. ArePoints t c.self.inside.count) (sym same) c.self.invariant
      | in-Refused w ↦ subst (λ t. ArePoints t c.self.inside.count) (sym w.in-Refused.ensures.0) c.self.invariant
      | in-Absent w ↦ subst (λ t. ArePoints t c.self.inside.count) (sym w.in-Absent.ensures.1) c.self.invariant
    ]

pub returns : goal.returns
returns g c =
    let means = g.U.Update.means in
    let u = c.args.update.now in
    let k = c.args.key.now in
    let es = c.self.inside.rows in
    let P : JoinReply → Type 0 = λ j. JoinsAt means j k u c.args.self.now c.edit.new.self in
    elim c.match-edit.branch [
      | in-Done-true w ↦
          let h = w.in-Done-true.ensures in
          let counted = counted_put k h.new es c.edit.new.self (Some h.old) (length h.old) c.assert_invariant.ensures h.is (sym h.there) refl in
          let only = single h.old (OnTrue_at w.in-Done-true.field-0-test h.done.one) in
          subst P (sym w.result-is) (subst (λ t. Inserts means k (means u) t c.edit.new.self) c.self.view_is (inserts_put means k (means u) h.new es c.edit.new.self h.is (λ o. OnTrue_at w.in-Done-true.field-0-test h.done.meaning o ∙ sym (ap (λ t. means u (found_effect means t o)) h.there))), omega (arith, counted, h.done.len, ap (λ t. point_count t) c.self.view_is), (only.0, ap (λ t. at_key k t) (sym c.self.view_is) ∙ h.there ∙ ap (λ t. Some t) only.1))
      | in-Done-false w ↦
          let h = w.in-Done-false.ensures in
          subst P (sym w.result-is) (h.is ∙ ap (λ t. insert_entry by_bytes es k t) (OnFalse_at w.in-Done-false.field-0-test h.done.unchanged) ∙ put_same k h.old es c.assert_invariant.ensures h.there ∙ c.self.view_is)
      | in-Refused w ↦ subst P (sym w.result-is) (w.in-Refused.ensures.0 ∙ c.self.view_is)
      | in-Absent w ↦ subst P (sym w.result-is) (ap (λ t. at_key k t) (sym c.self.view_is) ∙ w.in-Absent.ensures.0, w.in-Absent.ensures.1 ∙ c.self.view_is)
    ]
