use Rattle.std.proofs.Common.{ap, subst, ◌∙◌}
use Rattle.std.specs.BTreeMap.{insert_entry}
use Rattle.pathkey.specs.Order.{by_bytes}
use Rattle.cow_map.specs.Changes.{IsPut}
use Rattle.cow_map.proofs.Entries.{rises_none}
use Rattle.cow_map.proofs.chunks.row_of.Goals as goal

pub change-requires : goal.change-requires
change-requires g c = rises_none c.in-Ok.row c.in-Ok.ensures

pub returns-in-Ok-Ok-clause-row : goal.returns-in-Ok-Ok-clause-row
returns-in-Ok-Ok-clause-row g c =
    let done = subst (λ r. IsPut c.args.item.0 c.args.item.1 c.in-Ok.row c.change.new.self r) c.in-Ok-Ok.field-0-is c.in-Ok-Ok.ensures.done in
    done.0 ∙ ap (λ t. insert_entry by_bytes t c.args.item.0 c.args.item.1) c.in-Ok.ensures

pub returns-in-Ok-Err-clause-back : goal.returns-in-Ok-Err-clause-back
returns-in-Ok-Err-clause-back g c =
    let done = subst (λ r. IsPut c.args.item.0 c.args.item.1 c.in-Ok.row c.change.new.self r) c.in-Ok-Err.field-0-is c.in-Ok-Err.ensures.done in
    done.1
