use Rattle.std.proofs.Common.{◌∙◌, ap, [], ◌∷◌, arith}
use Rattle.std.proofs.lemmas.List.Sums.{fold-append}
use Rattle.point_ops.specs.KeyOps.{edits_effect}
use Rattle.point_ops.proofs.edits.push.Goals as goal

pub loop-alloc-preserved : goal.loop-alloc-preserved
loop-alloc-preserved g c = record {
  meaning = λ o. c.join_last.ensures.meaning o ∙ c.loop-alloc.invariant.meaning o;
  bound = omega (arith, c.join_last.ensures.bound, c.loop-alloc.invariant.bound);
  some = λ h. c.join_last.ensures.some (c.loop-alloc.invariant.some h);
}

pub returns-in-Ok-clause-meaning : goal.returns-in-Ok-clause-meaning
returns-in-Ok-clause-meaning g c o =
    let means = g.U.Update.means in
    let us = c.join_in_place.new.updates.items in
    ap (λ t. edits_effect means t o) c.in-Ok.ensures.items
    ∙ fold-append (λ w u. means u w) o us (c.args.later ∷ [])
    ∙ ap (λ t. means c.args.later (edits_effect means t o)) c.if-join_in_place.ensures.unchanged
