use Rattle.std.proofs.Common.{◌∙◌, ap, arith, length, refl, subst, sym}
use Rattle.std.specs.List.{slice_get}
use Rattle.cow_map.specs.Places.{at_key}
use Rattle.point_ops.specs.Changes.{run_effect}
use Rattle.point_ops.specs.PointOps.{IsFree}
use Rattle.point_ops.proofs.Laying.{counted_put, first_is, first_some, inserts_put}
use Rattle.point_ops.proofs.one_key.move_first.Goals as goal

pub move_first_from-requires : goal.move_first_from-requires
move_first_from-requires g c = first_some (c.in_ok-key.key.now, c.in_ok-key.run'.now) c.args.from.now (c.in_ok-key.ensures ∙ ap (λ t. slice_get t 0) c.cursor.ensures)

pub returns-clause-moved : goal.returns-clause-moved
returns-clause-moved g c =
    let means = g.U.Update.means in
    let old = c.args.rows.now in
    let key = c.in_ok-key.key.now in
    let run = c.in_ok-key.run'.now in
    let m = c.in-Ok.ensures.moved in
    let first = first_is (key, run) (m.key, m.value) c.args.from.now c.move_first_from.new.from (c.in_ok-key.ensures ∙ ap (λ t. slice_get t 0) c.cursor.ensures) m.parts in
    let free = subst (λ p. IsFree means p.1 (at_key p.0 old)) first (c.if-not-is_free.ensures refl) in
    let len = c.len-came.ensures.len ∙ ap (λ p. length p.1) first in
    let counted = counted_put m.key m.value old c.move_first_from.new.self c.in-Ok.was c.len_of.result c.assert_invariant.ensures m.is m.found c.len_of.ensures in
    record {
      takes = record {
        adds = record {
          key = m.key;
          run = m.value;
          parts = m.parts;
          all = len;
          some = c.len-came.ensures.some;
          few = omega arith;
          inserts = inserts_put means m.key (run_effect means m.value) m.value old c.move_first_from.new.self m.is (λ o. sym (free o));
          bound = omega (arith, counted, len);
        };
        is = m.is;
      };
      counted = omega (arith, counted, len);
    }
