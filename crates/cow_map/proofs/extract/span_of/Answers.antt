use Rattle.std.proofs.Common.{◌≡◌, ◌≤◌, ◌+◌, ◌-◌, ◌++◌, ◌∙◌, [], ap, subst, sym, arith, refl, rules, length, get_or, take, drop}
use Rattle.cow_map.specs.Places.{AreBelow, AreBeyond}
use Rattle.cow_map.specs.CowMap.{joined}
use Rattle.cow_map.proofs.Cuts.{beyond_from}
use Rattle.cow_map.proofs.Spans.{below_end}
use Rattle.cow_map.proofs.TableFacts.{back_at, found_rises, front_at, place_found, row_found}
use Rattle.cow_map.proofs.extract.span_of.Goals as goal

pub count_before-from-requires : goal.count_before-from-requires
count_before-from-requires g c =
    let rs = c.args.rows.now in
    let n = c.chunk_index-n.result in
    let f = row_found rs n c.in-Some-get.row.now c.entries-entries.result.now (search rules) (search rules) c.entries-entries.ensures.entries in
    found_rises rs n c.entries-entries.result.now c.requires f

pub count_before-to-requires : goal.count_before-to-requires
count_before-to-requires g c =
    let rs = c.args.rows.now in
    let n = c.chunk_index-n.result in
    let f = row_found rs n c.in-Some-get.row.now c.entries-entries.result.now (search rules) (search rules) c.entries-entries.ensures.entries in
    found_rises rs n c.entries-entries.result.now c.requires f

pub returns : goal.returns
returns g c =
    let rs = c.args.rows.now in
    let lo = c.args.range.now.lo in
    let hi = c.in-Some.end in
    let n = c.chunk_index-n.result in
    let es = c.entries-entries.result.now in
    let f = row_found rs n c.in-Some-get.row.now c.entries-entries.result.now (search rules) (search rules) c.entries-entries.ensures.entries in
    let long : length es ≡ length (get_or rs n []) = ap (λ t. length t) f.own in
    let i = c.count_before-from.result in
    let j = c.count_before-to.result in
    let same : n ≡ c.chunk_index.result = omega (arith, c.if-chunk_index-n.false) in
    let p = place_found lo rs n i es c.requires c.chunk_index-n.ensures.number f c.count_before-from.ensures.place in
    let q = place_found hi rs n j es c.requires (same ∙ c.chunk_index.ensures.number) f c.count_before-to.ensures.place in
    let o : i ≤ j = omega (arith, c.if-to-from.false) in
    record {
      row = f.low;
      order = o;
      bound = omega (arith, c.count_before-to.ensures.bound, long);
      others = omega (arith, c.if-count-entries.false, c.entries-entries.ensures.len, long);
      before = front_at lo rs n i p (joined (take n rs) ++ take i (get_or rs n [])) refl;
      reach = back_at lo rs n i p (drop i (get_or rs n []) ++ joined (drop (n + 1) rs)) refl;
      below = subst (λ h. AreBelow h (take (j - i) (drop i (get_or rs n [])))) (sym c.in-Some.is) (below_end hi i j (get_or rs n []) o q.spot);
      beyond = subst (λ h. AreBeyond h (drop j (get_or rs n []) ++ joined (drop (n + 1) rs))) (sym c.in-Some.is)
          (beyond_from hi (drop j (get_or rs n []) ++ joined (drop (n + 1) rs)) (back_at hi rs n j q (drop j (get_or rs n []) ++ joined (drop (n + 1) rs)) refl));
    }
