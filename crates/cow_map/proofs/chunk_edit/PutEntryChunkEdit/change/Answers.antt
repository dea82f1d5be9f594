use Rattle.std.proofs.Common.{subst, sym, ◌∙◌}
use Rattle.cow_map.specs.Places.{IsGap, IsHolder}
use Rattle.cow_map.proofs.Entries.{none_at, put_done}
use Rattle.cow_map.proofs.chunk_edit.PutEntryChunkEdit.change.Goals as goal

pub swap_item-requires : goal.swap_item-requires
swap_item-requires g c = subst (λ t. IsHolder c.args.self.item.0 t c.in-Ok.i) c.as_slice.ensures.value (subst (λ k. IsHolder k c.as_slice.result.now c.in-Ok.i) c.key.ensures c.in-Ok.ensures)

pub returns-in-Ok-insert : goal.returns-in-Ok-insert
returns-in-Ok-insert g c =
    let es = c.args.entries.now.items in
    let k = c.args.self.item.0 in
    let h = subst (λ t. IsGap k t c.in-Err.i) c.as_slice.ensures.value (subst (λ q. IsGap q c.as_slice.result.now c.in-Err.i) c.key.ensures c.in-Err.ensures) in
    (c.in-Ok-insert.ensures.items ∙ put_done k c.args.self.item.1 es c.in-Err.i h, sym (none_at k es c.requires h.absent))
