use Rattle.std.proofs.Common.{[], drop, ap, ◌∙◌, refl}
use Rattle.std.proofs.lemmas.List.{get_or_default}
use Rattle.cow_map.proofs.Lifts.{shortened_rows}
use Rattle.cow_map.proofs.chunks.drop_front_of_first.Goals as goal

pub returns-clause-rows : goal.returns-clause-rows
returns-clause-rows g c =
    let rs = c.args.rows.now.items in
    let r = c.index_mut-row.result.now in
    shortened_rows rs _ c.args.count c.drop_front.new.self c.requires.some c.requires.more refl (c.drop_front.ensures ∙ ap (λ t. drop c.args.count t) (c.index_mut-row.ensures.value ∙ get_or_default rs 0 r [] c.requires.some)) c.requires.rows
