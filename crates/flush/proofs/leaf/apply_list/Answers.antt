use Rattle.std.proofs.Common.{◌∙◌, subst}
use Rattle.flush.specs.Merge.{IsFilled}
use Rattle.flush.proofs.Merging.{filled_first}
use Rattle.flush.proofs.leaf.apply_list.Goals as goal

pub returns-clause-filled : goal.returns-clause-filled
returns-clause-filled g c =
    let means = g.U.Update.means in
    let most = c.args.most in
    let n = c.apply_each.result in
    let old = c.args.entries.now.items in
    let new = c.apply_each.new.entries.items in
    filled_first means most c.args.list.now.0 c.few_oldest-few.result n old new (subst (λ ms. IsFilled means most ms n old new) (c.as_slice.ensures.value ∙ c.in-Ok.ensures) c.apply_each.ensures)
