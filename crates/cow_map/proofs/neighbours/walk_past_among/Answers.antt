use Rattle.std.proofs.Common.{◌+◌, ◌-◌, ◌∙◌, ◌++◌, ap, take, drop, length, subst, sym}
use Rattle.cow_map.specs.Places.{place_past}
use Rattle.cow_map.specs.CowMap.{joined, AreSized, behind}
use Rattle.cow_map.proofs.Behind.{behind_index, behind_rest, behind_row, behind_rows}
use Rattle.cow_map.proofs.Lifts.{found_rest, row_past}
use Rattle.cow_map.proofs.Parts.{rest_is}
use Rattle.cow_map.proofs.TableFacts.{found_rises, sized_drop}
use Rattle.cow_map.proofs.neighbours.walk_past_among.Goals as goal

pub count_past-at-requires : goal.count_past-at-requires
count_past-at-requires g c =
    let rs = c.args.rows.now in
    let left = c.args.left in
    let n = c.chunk_index-n.result in
    let es = c.in-Some.entries.now in
    found_rises (behind left rs) n es (behind_rows left rs c.requires.rows c.requires.left) (behind_row left n rs es c.in-Some.ensures.bound c.in-Some.ensures.entries)

pub of-requires-2 : goal.of-requires-2
of-requires-2 g c = subst (λ t. AreSized t) (sym (rest_is (c.chunk_index-n.result + 1) c.args.rows.now)) (sized_drop (c.chunk_index-n.result + 1) c.args.rows.now c.requires.rows.sized)

pub returns : goal.returns
returns g c =
    let rs = c.args.rows.now in
    let left = c.args.left in
    let k = c.args.key.now in
    let n = c.chunk_index-n.result in
    let at = c.count_past-at.result in
    let es = c.in-Some.entries.now in
    let w = behind_rows left rs c.requires.rows c.requires.left in
    let f = behind_row left n rs es c.in-Some.ensures.bound c.in-Some.ensures.entries in
    let lift = row_past k (behind left rs) n w (c.chunk_index-n.ensures.number ∙ sym (behind_index k left rs)) f.low in
    c.of-2.ensures
    ∙ ap (λ t. take (length es - at) (drop at es) ++ joined t) (sym (behind_rest left n rs))
    ∙ found_rest (place_past k) (behind left rs) n at es f lift c.count_past-at.ensures.place c.count_past-at.ensures.bound
