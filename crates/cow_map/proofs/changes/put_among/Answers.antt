use Rattle.std.proofs.Common.{subst}
use Rattle.cow_map.specs.CowMap.{joined}
use Rattle.cow_map.specs.Changes.{IsPut}
use Rattle.cow_map.proofs.Lifts.{put_rows, put_whole}
use Rattle.cow_map.proofs.TableFacts.{row_rises}
use Rattle.cow_map.proofs.changes.put_among.Goals as goal

pub edit_chunk-requires-clause-fits : goal.edit_chunk-requires-clause-fits
edit_chunk-requires-clause-fits g c = row_rises c.split_long.new.rows.items c.in-Some.n c.in-Some.ensures.rows c.in-Some.ensures.bound

pub returns-in-Ok-clause-rows : goal.returns-in-Ok-clause-rows
returns-in-Ok-clause-rows g c =
    put_rows c.args.key c.split_long.new.rows.items c.in-Some.n c.in-Some.ensures.rows c.in-Some.ensures.number c.in-Some.ensures.bound c.args.value c.edit_chunk.new.rows.items c.in-Ok.answer c.in-Some.ensures.room c.in-Ok.ensures.changed

pub returns-in-Ok-clause-put : goal.returns-in-Ok-clause-put
returns-in-Ok-clause-put g c =
    let rs = c.split_long.new.rows.items in
    let ss = c.edit_chunk.new.rows.items in
    let k = c.args.key in
    let v = c.args.value in
    subst (λ t. IsPut k v t (joined ss) c.in-Ok.answer) c.in-Some.ensures.same (put_whole k rs c.in-Some.n c.in-Some.ensures.rows c.in-Some.ensures.number c.in-Some.ensures.bound v ss c.in-Ok.answer c.in-Ok.ensures.changed)
