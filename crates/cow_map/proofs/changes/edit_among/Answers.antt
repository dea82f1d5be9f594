use Rattle.std.proofs.Common.{◌≡◌, ◌<◌, ap, rules, length, ◌∙◌}
use Rattle.cow_map.specs.CowMap.{chunk_index}
use Rattle.cow_map.proofs.Lifts.{edit_rows, edit_whole}
use Rattle.cow_map.proofs.TableFacts.{row_rises}
use Rattle.cow_map.proofs.changes.edit_among.Goals as goal

pub edit_chunk-requires-clause-fits : goal.edit_chunk-requires-clause-fits
edit_chunk-requires-clause-fits g c =
    let rs = c.args.rows.now.items in
    let low : c.chunk_index-n.result < length rs = search rules in
    row_rises rs c.chunk_index-n.result c.requires low

pub returns-in-Ok-clause-rows : goal.returns-in-Ok-clause-rows
returns-in-Ok-clause-rows g c =
    let rs = c.args.rows.now.items in
    let n = c.chunk_index-n.result in
    let k = c.args.key.now in
    let low : n < length rs = search rules in
    let number : n ≡ chunk_index k rs = c.chunk_index-n.ensures.number ∙ ap (λ t. chunk_index k t) c.as_slice.ensures.value in
    edit_rows k rs n c.requires number low (g.E.Edit.does c.args.edit) c.args.edit c.edit_chunk.new.rows.items c.in-Ok.answer (row_rises rs n c.requires low) c.in-Ok.ensures.changed

pub returns-in-Ok-clause-edited : goal.returns-in-Ok-clause-edited
returns-in-Ok-clause-edited g c =
    let rs = c.args.rows.now.items in
    let n = c.chunk_index-n.result in
    let k = c.args.key.now in
    let low : n < length rs = search rules in
    let number : n ≡ chunk_index k rs = c.chunk_index-n.ensures.number ∙ ap (λ t. chunk_index k t) c.as_slice.ensures.value in
    edit_whole k rs n c.requires number low (g.E.Edit.does c.args.edit) c.args.edit c.edit_chunk.new.rows.items c.in-Ok.answer c.in-Ok.ensures.changed
