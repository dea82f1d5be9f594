use Rattle.std.proofs.Common.{ap, ◌∙◌, refl, subst}
use Rattle.std.specs.List.{slice_set}
use Rattle.cow_map.specs.Places.{IsGap, IsHolder}
use Rattle.cow_map.proofs.Entries.{held_value, none_at, replaced}
use Rattle.cow_map.proofs.chunk_edit.EditEntryChunkEdit.change.Goals as goal

pub returns-in-Ok-edit : goal.returns-in-Ok-edit
returns-in-Ok-edit g c =
    let es = c.args.entries.now.items in
    let k = c.args.self.key.now in
    let i = c.in-Ok.i in
    let e = c.index_mut-item.result.now in
    let new = c.edit.new.self in
    let h = subst (λ t. IsHolder k t i) c.as_slice.ensures.value c.in-Ok.ensures in
    record {
      old = e.1;
      new = new.1;
      there = held_value k es i e h c.index_mut-item.ensures.value;
      done = c.in-Ok-edit.ensures.done;
      is = ap (λ q. slice_set es i (q, new.1)) c.edit.ensures.key ∙ replaced k es i e h c.index_mut-item.ensures.value new.1;
    }

pub returns-in-Err : goal.returns-in-Err
returns-in-Err g c =
    let h = subst (λ t. IsGap c.args.self.key.now t c.in-Err.field-0) c.as_slice.ensures.value c.in-Err.ensures in
    (none_at c.args.self.key.now c.args.entries.now.items c.requires h.absent, refl, refl)
