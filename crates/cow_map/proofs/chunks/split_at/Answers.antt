use Rattle.std.proofs.Common.{◌+◌, ◌∙◌, ap, arith, rules, length, take, drop}
use Rattle.cow_map.specs.CowMap.{joined, chunk_index}
use Rattle.cow_map.proofs.TableFacts.{back_all, back_at, back_none, found_rises, front_all, front_at, front_none, place_found, row_found}
use Rattle.cow_map.proofs.chunks.split_at.Goals as goal

pub count_before-at-requires : goal.count_before-at-requires
count_before-at-requires g c =
    let rs = c.args.rows.now.items in
    let n = c.chunk_index-n.result in
    let f = row_found rs n c.in-Some.row.now c.entries-entries.result.now (search rules) (search rules) c.entries-entries.ensures.entries in
    found_rises rs n c.entries-entries.result.now c.requires f

pub returns-then-at-eq0-clause-front : goal.returns-then-at-eq0-clause-front
returns-then-at-eq0-clause-front g c =
    let rs = c.args.rows.now.items in
    let k = c.args.key.now in
    let n = c.chunk_index-n.result in
    let at = c.count_before-at.result in
    let f = row_found rs n c.in-Some.row.now c.entries-entries.result.now (search rules) (search rules) c.entries-entries.ensures.entries in
    let s = place_found k rs n at c.entries-entries.result.now c.requires (c.chunk_index-n.ensures.number ∙ ap (λ t. chunk_index k t) c.as_slice.ensures.value) f c.count_before-at.ensures.place in
    front_none k rs n at s c.if-at-eq0.true

pub returns-then-at-eq0-clause-back : goal.returns-then-at-eq0-clause-back
returns-then-at-eq0-clause-back g c =
    let rs = c.args.rows.now.items in
    let k = c.args.key.now in
    let n = c.chunk_index-n.result in
    let at = c.count_before-at.result in
    let f = row_found rs n c.in-Some.row.now c.entries-entries.result.now (search rules) (search rules) c.entries-entries.ensures.entries in
    let s = place_found k rs n at c.entries-entries.result.now c.requires (c.chunk_index-n.ensures.number ∙ ap (λ t. chunk_index k t) c.as_slice.ensures.value) f c.count_before-at.ensures.place in
    back_none k rs n at s c.if-at-eq0.true

pub returns-then-at-entries-clause-front : goal.returns-then-at-entries-clause-front
returns-then-at-entries-clause-front g c =
    let rs = c.args.rows.now.items in
    let k = c.args.key.now in
    let n = c.chunk_index-n.result in
    let at = c.count_before-at.result in
    let f = row_found rs n c.in-Some.row.now c.entries-entries.result.now (search rules) (search rules) c.entries-entries.ensures.entries in
    let s = place_found k rs n at c.entries-entries.result.now c.requires (c.chunk_index-n.ensures.number ∙ ap (λ t. chunk_index k t) c.as_slice.ensures.value) f c.count_before-at.ensures.place in
    front_all k rs n at s (omega (arith, c.if-at-entries.true, ap (λ t. length t) f.own))

pub returns-then-at-entries-clause-back : goal.returns-then-at-entries-clause-back
returns-then-at-entries-clause-back g c =
    let rs = c.args.rows.now.items in
    let k = c.args.key.now in
    let n = c.chunk_index-n.result in
    let at = c.count_before-at.result in
    let f = row_found rs n c.in-Some.row.now c.entries-entries.result.now (search rules) (search rules) c.entries-entries.ensures.entries in
    let s = place_found k rs n at c.entries-entries.result.now c.requires (c.chunk_index-n.ensures.number ∙ ap (λ t. chunk_index k t) c.as_slice.ensures.value) f c.count_before-at.ensures.place in
    back_all k rs n at s (omega (arith, c.if-at-entries.true, ap (λ t. length t) f.own))

pub returns-clause-front : goal.returns-clause-front
returns-clause-front g c =
    let rs = c.args.rows.now.items in
    let k = c.args.key.now in
    let n = c.chunk_index-n.result in
    let at = c.count_before-at.result in
    let f = row_found rs n c.in-Some.row.now c.entries-entries.result.now (search rules) (search rules) c.entries-entries.ensures.entries in
    let s = place_found k rs n at c.entries-entries.result.now c.requires (c.chunk_index-n.ensures.number ∙ ap (λ t. chunk_index k t) c.as_slice.ensures.value) f c.count_before-at.ensures.place in
    front_at k rs n at s (joined (take (n + 1) c.split_chunk.new.rows.items)) c.in_ok-split_chunk.ensures.front

pub returns-clause-back : goal.returns-clause-back
returns-clause-back g c =
    let rs = c.args.rows.now.items in
    let k = c.args.key.now in
    let n = c.chunk_index-n.result in
    let at = c.count_before-at.result in
    let f = row_found rs n c.in-Some.row.now c.entries-entries.result.now (search rules) (search rules) c.entries-entries.ensures.entries in
    let s = place_found k rs n at c.entries-entries.result.now c.requires (c.chunk_index-n.ensures.number ∙ ap (λ t. chunk_index k t) c.as_slice.ensures.value) f c.count_before-at.ensures.place in
    back_at k rs n at s (joined (drop (n + 1) c.split_chunk.new.rows.items)) c.in_ok-split_chunk.ensures.back
