use Rattle.std.proofs.Common.{ap, ◌∙◌, subst}
use Rattle.std.specs.List.{insert, slice_set}
use Rattle.cow_map.specs.Places.{IsGap, IsHolder}
use Rattle.cow_map.proofs.Entries.{held_value, none_at, put_done, replaced}
use Rattle.cow_map.proofs.chunk_edit.EditOrShareChunkEdit.change.Goals as goal

pub returns-in-Ok-edit : goal.returns-in-Ok-edit
returns-in-Ok-edit g c =
    let es = c.args.entries.now.items in
    let k = c.args.self.item.now.0 in
    let i = c.in-Ok.i in
    let e = c.index_mut-held.result.now in
    let new = c.edit.new.self in
    let h = subst (λ t. IsHolder k t i) c.as_slice.ensures.value (subst (λ q. IsHolder q c.as_slice.result.now i) c.key.ensures c.in-Ok.ensures) in
    record {
      old = e.1;
      new = new.1;
      there = held_value k es i e h c.index_mut-held.ensures.value;
      done = c.in-Ok-edit.ensures.done;
      is = ap (λ q. slice_set es i (q, new.1)) c.edit.ensures.key ∙ replaced k es i e h c.index_mut-held.ensures.value new.1;
    }

pub returns-in-Ok-insert : goal.returns-in-Ok-insert
returns-in-Ok-insert g c =
    let es = c.args.entries.now.items in
    let item = c.args.self.item.now in
    let i = c.in-Err.i in
    let h = subst (λ t. IsGap item.0 t i) c.as_slice.ensures.value (subst (λ q. IsGap q c.as_slice.result.now i) c.key.ensures c.in-Err.ensures) in
    (none_at item.0 es c.requires h.absent, c.in-Ok-insert.ensures.items ∙ ap (λ t. insert es i t) c.in_ok-item-in-Err.ensures ∙ put_done item.0 item.1 es i h)
