use Rattle.std.proofs.Common.{◌∙◌, ap, sym}
use Rattle.std.specs.List.{slice_get}
use Rattle.std.specs.BTreeMap.{insert_entry}
use Rattle.pathkey.specs.Order.{by_bytes}
use Rattle.cow_map.specs.Places.{at_key}
use Rattle.point_ops.proofs.Laying.{first_shortened}
use Rattle.point_ops.proofs.one_key.shorten_first.Goals as goal

pub returns-in-Done-clause-ok : goal.returns-in-Done-clause-ok
returns-in-Done-clause-ok g c =
    let h = c.in-Done.ensures in
    let es = c.args.rows.now in
    let key = c.in_ok-key.ensures in
    first_shortened c.args.consumed c.in-Some.first.now c.in-Some.field-0-1.now h.old h.new es c.edit.new.self
    (c.in-Some.ensures ∙ ap (λ t. slice_get t 0) c.cursor.ensures)
    (ap (λ t. at_key t es) (sym key) ∙ h.there)
    (h.is ∙ ap (λ t. insert_entry by_bytes es t h.new) key)
    h.done c.requires
