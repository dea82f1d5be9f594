use Rattle.std.proofs.Common.{[], get_or, ap, subst, ◌∙◌}
use Rattle.std.specs.List.{slice_set}
use Rattle.cow_map.specs.Changes.{IsJoined}
use Rattle.cow_map.proofs.Joins.{set_again}
use Rattle.cow_map.proofs.chunks.put_behind.Goals as goal

pub returns-in-Ok-Ok-clause-joined : goal.returns-in-Ok-Ok-clause-joined
returns-in-Ok-Ok-clause-joined g c =
    let rs = c.args.rows.now.items in
    let h = c.in-Ok-Ok.ensures.changed in
    let done = subst (λ r. IsJoined c.args.row (get_or rs c.args.n []) h.row r) c.in-Ok-Ok.field-0-is h.done in
    h.is ∙ ap (λ t. slice_set rs c.args.n t) done

pub returns-in-Ok-Err-clause-same : goal.returns-in-Ok-Err-clause-same
returns-in-Ok-Err-clause-same g c =
    let rs = c.args.rows.now.items in
    let h = c.in-Ok-Err.ensures.changed in
    let done = subst (λ r. IsJoined c.args.row (get_or rs c.args.n []) h.row r) c.in-Ok-Err.field-0-is h.done in
    set_again rs c.edit_chunk.new.rows.items c.args.n h.row c.requires done.0 h.is

pub returns-in-Ok-Err-clause-back : goal.returns-in-Ok-Err-clause-back
returns-in-Ok-Err-clause-back g c =
    let rs = c.args.rows.now.items in
    let h = c.in-Ok-Err.ensures.changed in
    let done = subst (λ r. IsJoined c.args.row (get_or rs c.args.n []) h.row r) c.in-Ok-Err.field-0-is h.done in
    done.1
