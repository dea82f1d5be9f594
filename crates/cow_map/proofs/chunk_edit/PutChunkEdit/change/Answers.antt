use Rattle.std.proofs.Common.{◌≡◌, ap, rules, subst, sym, ◌∙◌, Some}
use Rattle.std.specs.List.{insert, slice_set}
use Rattle.cow_map.specs.Places.{IsGap, IsHolder}
use Rattle.cow_map.proofs.Entries.{held_value, none_at, put_done, replaced}
use Rattle.cow_map.proofs.chunk_edit.PutChunkEdit.change.Goals as goal

pub returns-in-Ok-replace : goal.returns-in-Ok-replace
returns-in-Ok-replace g c =
    let es = c.args.entries.now.items in
    let k = c.args.self.key in
    let i = c.in-Ok.i in
    let e = c.index_mut-item.result.now in
    let h = subst (λ t. IsHolder k t i) c.as_slice.ensures.value c.in-Ok.ensures in (
      ap (λ y. slice_set es i y) c.in-Ok-replace.ensures.is ∙ replaced k es i e h c.index_mut-item.ensures.value c.args.self.value,
      ap (λ w. Some w) c.in-Ok-replace.ensures.was ∙ sym (held_value k es i e h c.index_mut-item.ensures.value),
    )

pub returns-in-Ok-insert : goal.returns-in-Ok-insert
returns-in-Ok-insert g c =
    let es = c.args.entries.now.items in
    let k = c.args.self.key in
    let h = subst (λ t. IsGap k t c.in-Err.i) c.as_slice.ensures.value c.in-Err.ensures in
    let is : c.insert.new.self.items ≡ insert es c.in-Err.i (k, c.args.self.value) = search rules in
    (is ∙ put_done k c.args.self.value es c.in-Err.i h, sym (none_at k es c.requires h.absent))
