use Rattle.std.proofs.Common.{ap, subst, ◌∙◌}
use Rattle.cow_map.specs.CowMap.{joined, chunk_index}
use Rattle.cow_map.specs.Changes.{IsEditedOrPut}
use Rattle.cow_map.proofs.Lifts.{join_rows, join_whole}
use Rattle.cow_map.proofs.TableFacts.{row_rises}
use Rattle.cow_map.proofs.changes.edit_or_share_among.Goals as goal

pub edit_chunk-requires-clause-fits : goal.edit_chunk-requires-clause-fits
edit_chunk-requires-clause-fits g c = row_rises c.split_long.new.rows.items c.in-Some.n c.in-Some.ensures.rows c.in-Some.ensures.bound

pub returns-in-Ok-edit_chunk-clause-rows : goal.returns-in-Ok-edit_chunk-clause-rows
returns-in-Ok-edit_chunk-clause-rows g c =
    let rs = c.split_long.new.rows.items in
    let n = c.in-Some.n in
    let item = c.args.item.now in
    let number = c.in-Some.ensures.number ∙ ap (λ k. chunk_index k rs) c.key.ensures in
    join_rows item.0 rs n c.in-Some.ensures.rows number c.in-Some.ensures.bound (g.E.Edit.does c.args.edit) item.1 c.edit_chunk.new.rows.items c.in-Ok-edit_chunk.answer (row_rises rs n c.in-Some.ensures.rows c.in-Some.ensures.bound) c.in-Some.ensures.room c.in-Ok-edit_chunk.ensures.changed

pub returns-in-Ok-edit_chunk-clause-done : goal.returns-in-Ok-edit_chunk-clause-done
returns-in-Ok-edit_chunk-clause-done g c =
    let rs = c.split_long.new.rows.items in
    let n = c.in-Some.n in
    let item = c.args.item.now in
    let does = g.E.Edit.does c.args.edit in
    let ss = c.edit_chunk.new.rows.items in
    let number = c.in-Some.ensures.number ∙ ap (λ k. chunk_index k rs) c.key.ensures in
    subst (λ t. IsEditedOrPut does item.0 item.1 t (joined ss) c.in-Ok-edit_chunk.answer) c.in-Some.ensures.same (join_whole item.0 rs n c.in-Some.ensures.rows number c.in-Some.ensures.bound does item.1 ss c.in-Ok-edit_chunk.answer c.in-Ok-edit_chunk.ensures.changed)
