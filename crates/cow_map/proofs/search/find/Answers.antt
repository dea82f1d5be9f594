use Rattle.std.proofs.Common.{◌≡◌, ◌+◌, ◌-◌, List, ℕ, length, arith, refl, rules, sym, subst, ◌∙◌}
use Rattle.cow_map.specs.Places.{IsGap}
use Rattle.cow_map.proofs.Searching.{all_left, entries_ascend, fallen, gap_found, holder_found, risen}
use Rattle.cow_map.proofs.search.find.Goals as goal

pub find_among-requires-clause-rest : goal.find_among-requires-clause-rest
find_among-requires-clause-rest g c =
    let es = c.args.entries.now in
    let k = c.args.key.now in
    let at = length es - 1 in
    let x = c.index-entries-last.result in
    let some : length es ≡ at + 1 = search rules in
    let key = λ (e : List ℕ × g.row.T.Denot). e.0 in
    fallen key es k 0 (length es) 0 0 at c.cmp_from-order.result.1 x (all_left key es k) (omega arith) (omega (arith, some)) c.index-entries-last.is (entries_ascend es c.requires) (sym (c.cmp_from-order.ensures.order refl) ∙ c.in-Greater.is) (c.cmp_from-order.ensures.same refl)

pub returns-in-Less : goal.returns-in-Less
returns-in-Less g c =
    let es = c.args.entries.now in
    let k = c.args.key.now in
    let at = length es - 1 in
    let x = c.index-entries-last.result in
    let some : length es ≡ at + 1 = search rules in
    let key = λ (e : List ℕ × g.row.T.Denot). e.0 in
    let none = risen key es k 0 (length es) 0 0 at c.cmp_from-order.result.1 x (all_left key es k) (omega arith) (omega (arith, some)) c.index-entries-last.is (entries_ascend es c.requires) (sym (c.cmp_from-order.ensures.order refl) ∙ c.in-Less.is) (c.cmp_from-order.ensures.same refl) in
    subst (λ i. IsGap k es i) (sym some) (gap_found k es (at + 1) (length es) c.cmp_from-order.result.1 0 none (omega (arith, some)))

pub returns-in-Equal : goal.returns-in-Equal
returns-in-Equal g c =
    let es = c.args.entries.now in
    let k = c.args.key.now in
    let at = length es - 1 in
    let x = c.index-entries-last.result in
    let some : length es ≡ at + 1 = search rules in
    holder_found k es at x c.requires (omega (arith, some)) c.index-entries-last.is (sym (c.cmp_from-order.ensures.order refl) ∙ c.in-Equal.is)
