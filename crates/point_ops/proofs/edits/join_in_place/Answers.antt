use Rattle.std.proofs.Common.{arith, ◌-◌, ap, ◌∙◌}
use Rattle.std.proofs.Math.ListN.{set}
use Rattle.std.proofs.lemmas.Bool.{OnFalse_at, OnFalse_from, OnTrue_at, OnTrue_from}
use Rattle.std.proofs.lemmas.List.{set-get_or}
use Rattle.point_ops.proofs.Updates.{edits-set_last}
use Rattle.point_ops.proofs.edits.join_in_place.Goals as goal

pub returns-clause-meaning : goal.returns-clause-meaning
returns-clause-meaning g c = OnTrue_from c.join_in_place.result _ (λ did o.
    let means = g.U.Update.means in
    let taken = OnTrue_at did c.join_in_place.ensures.taken in
    edits-set_last means (means c.args.later.now) c.args.updates.now.items (c.len-count.result - 1) c.join_in_place.new.self c.index_mut.result.now o (omega arith) (λ w. taken w ∙ ap (λ u. means c.args.later.now (means u w)) c.index_mut.ensures.value))

pub returns-clause-unchanged : goal.returns-clause-unchanged
returns-clause-unchanged g c = OnFalse_from c.join_in_place.result _ (λ no.
    let items = c.args.updates.now.items in
    let last = c.len-count.result - 1 in
    ap (λ u. set items last u) (OnFalse_at no c.join_in_place.ensures.unchanged ∙ c.index_mut.ensures.value) ∙ set-get_or items last c.index_mut.result.now)
