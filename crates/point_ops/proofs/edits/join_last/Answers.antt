use Rattle.std.proofs.Common.{◌∙◌, ◌≡◌, ap, sym, [], ◌∷◌, ◌++◌, rules}
use Rattle.std.proofs.lemmas.List.Sums.{fold-append}
use Rattle.point_ops.specs.KeyOps.{edits_effect}
use Rattle.point_ops.proofs.edits.join_last.Goals as goal

pub returns-then-join_in_place-clause-meaning : goal.returns-then-join_in_place-clause-meaning
returns-then-join_in_place-clause-meaning g c o =
    let means = g.U.Update.means in
    let us = c.pop.new.self.items in
    let whole : c.args.updates.now.items ≡ us ++ c.in-Some.later ∷ [] = search rules in
    c.if-join_in_place.ensures.meaning o ∙ sym (ap (λ t. edits_effect means t o) whole ∙ fold-append (λ w u. means u w) o us (c.in-Some.later ∷ []))
