use Rattle.std.proofs.Common.{ap, sym, ◌∙◌, Some}
use Rattle.std.specs.List.{slice_set}
use Rattle.std.proofs.lemmas.List.{get_or-set_same}
use Rattle.cow_map.proofs.Entries.{held_value, item_replaced, set_back}
use Rattle.cow_map.proofs.chunk_edit.swap_item.Goals as goal

pub returns-in-Ok : goal.returns-in-Ok
returns-in-Ok g c =
    let es = c.args.entries.now.items in
    let k = c.args.item.0 in
    let i = c.args.i in
    let e = c.index_mut.result.now in (
      ap (λ y. slice_set es i y) c.replace-old.ensures.after ∙ item_replaced k es i e c.requires c.index_mut.ensures.value c.args.item.1,
      ap (λ w. Some w) (c.in-Ok.ensures.ok ∙ ap (λ y. y.1) c.replace-old.ensures.value) ∙ sym (held_value k es i e c.requires c.index_mut.ensures.value),
    )

pub returns-in-Err : goal.returns-in-Err
returns-in-Err g c =
    let es = c.args.entries.now.items in
    let i = c.args.i in
    let new = c.replace-old.new.dest in
    let e = c.index_mut.result.now in (
      ap (λ y. slice_set (slice_set es i new) i y) (c.replace.ensures.after ∙ c.in-Err.ensures.back ∙ c.replace-old.ensures.value) ∙ set_back es i new e c.requires.bound c.index_mut.ensures.value,
      c.replace.ensures.value ∙ c.index_mut-in-Err.ensures.value ∙ get_or-set_same es i new c.index_mut-in-Err.result.now c.requires.bound ∙ c.replace-old.ensures.after,
    )
