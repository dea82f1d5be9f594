use Rattle.std.proofs.Common.{◌∙◌, ap, sym}
use Rattle.cow_map.specs.Places.{last_of, place}
use Rattle.cow_map.specs.CowMap.{behind}
use Rattle.cow_map.proofs.Behind.{behind_index, behind_row, behind_rows}
use Rattle.cow_map.proofs.Lifts.{found_take, row_place}
use Rattle.cow_map.proofs.TableFacts.{found_rises}
use Rattle.cow_map.proofs.neighbours.last_before_among.Goals as goal

pub count_before-at-requires : goal.count_before-at-requires
count_before-at-requires g c =
    let rs = c.args.rows.now in
    let left = c.args.left in
    let n = c.chunk_index-n.result in
    let es = c.in-Some.entries.now in
    found_rises (behind left rs) n es (behind_rows left rs c.requires.rows c.requires.left) (behind_row left n rs es c.in-Some.ensures.bound c.in-Some.ensures.entries)

pub returns : goal.returns
returns g c =
    let rs = c.args.rows.now in
    let left = c.args.left in
    let k = c.args.key.now in
    let n = c.chunk_index-n.result in
    let es = c.in-Some.entries.now in
    let w = behind_rows left rs c.requires.rows c.requires.left in
    let f = behind_row left n rs es c.in-Some.ensures.bound c.in-Some.ensures.entries in
    let lift = row_place k (behind left rs) n w (c.chunk_index-n.ensures.number ∙ sym (behind_index k left rs)) f.low in
    c.last_after.ensures ∙ ap (λ t. last_of t) (found_take (place k) (behind left rs) n c.count_before-at.result es f lift c.count_before-at.ensures.place c.count_before-at.ensures.bound)
