use Rattle.std.proofs.Common.{◌∙◌, rules, tests}
use Rattle.std.proofs.lemmas.Iterator.{YieldsList-from_slice}
use Rattle.std.proofs.lemmas.Iterator.Search.{any_from_yields_List}
use Rattle.message.specs.PointKeys.{clears}
use Rattle.message.proofs.Lists.{any_cleared}
use Rattle.pending.proofs.list.is_range_deleted.Goals as goal

pub returns : goal.returns
returns g c =
    let key = c.args.key.now in
    let some = any_from_yields_List (λ m. clears m key) _ _ c.any.result c.any.ensures.ran (YieldsList-from_slice c.args.msgs.now cc) (λ x b q k. search (rules, tests)) in
    some ∙ any_cleared c.args.msgs.now key
