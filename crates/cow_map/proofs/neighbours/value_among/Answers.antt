use Rattle.std.proofs.Common.{◌∙◌, ap, sym}
use Rattle.cow_map.specs.Places.{at_key}
use Rattle.cow_map.specs.CowMap.{behind}
use Rattle.cow_map.proofs.Behind.{behind_index, behind_row, behind_rows}
use Rattle.cow_map.proofs.Lifts.{row_value}
use Rattle.cow_map.proofs.TableFacts.{found_rises}
use Rattle.cow_map.proofs.neighbours.value_among.Goals as goal

pub value_at-requires : goal.value_at-requires
value_at-requires g c =
    let rs = c.args.rows.now in
    let left = c.args.left in
    let n = c.chunk_index-n.result in
    let es = c.in-Some.entries.now in
    found_rises (behind left rs) n es (behind_rows left rs c.requires.rows c.requires.left) (behind_row left n rs es c.in-Some.ensures.bound c.in-Some.ensures.entries)

pub returns-in-Some : goal.returns-in-Some
returns-in-Some g c =
    let rs = c.args.rows.now in
    let left = c.args.left in
    let k = c.args.key.now in
    let n = c.chunk_index-n.result in
    let es = c.in-Some.entries.now in
    let f = behind_row left n rs es c.in-Some.ensures.bound c.in-Some.ensures.entries in
    c.value_at.ensures ∙ ap (λ t. at_key k t) f.own ∙ row_value k (behind left rs) n (behind_rows left rs c.requires.rows c.requires.left) (c.chunk_index-n.ensures.number ∙ sym (behind_index k left rs)) f.low
