use Rattle.std.proofs.Common.{◌≡◌, ◌∷◌, rules, sym, ap, ◌∙◌}
use Rattle.cow_map.specs.CowMap.{chunk_index}
use Rattle.cow_map.proofs.TableFacts.{rows_tail}
use Rattle.cow_map.proofs.chunks.chunk_index.Goals as goal

pub chunk_before-requires : goal.chunk_before-requires
chunk_before-requires g c =
    let e : c.args.rows.now ≡ c.in-Some.field-0-0.now ∷ c.in-Some.later.now = search rules in
    rows_tail c.args.rows.now c.in-Some.field-0-0.now c.in-Some.later.now e c.requires

pub returns-clause-number : goal.returns-clause-number
returns-clause-number g c =
    let e : c.args.rows.now ≡ c.in-Some.field-0-0.now ∷ c.in-Some.later.now = search rules in
    c.chunk_before.ensures.number ∙ sym (ap (chunk_index c.args.key.now) e)
