use Rattle.std.proofs.Common.{◌≡◌, ◌≤◌, ◌<◌, ◌+◌, ◌-◌, [], suc, ap, arith, rules, length, get_or, drop, sym, ◌∙◌}
use Rattle.std.proofs.lemmas.List.{get_or_default}
use Rattle.cow_map.specs.CowMap.{joined}
use Rattle.cow_map.proofs.Lifts.{passed, passed_length}
use Rattle.cow_map.proofs.chunks.whole_rows.Goals as goal

pub loop-n-preserved : goal.loop-n-preserved
loop-n-preserved g c =
    let rs = c.args.rows.now in
    let n = c.loop-n.n in
    let left = c.loop-n.left in
    let low : n < length rs = search rules in
    let own : c.entries-in-loop-n.result.now ≡ get_or rs n [] = c.entries-in-loop-n.ensures.entries ∙ c.index-rows-n-in-loop-n.is ∙ get_or_default rs n c.index-rows-n-in-loop-n.result [] low in
    let long : length c.entries-in-loop-n.result.now ≡ length (get_or rs n []) = ap (λ t. length t) own in
    let seen : length c.entries.result.now ≡ length (get_or rs n []) = ap (λ t. length t) (c.entries.ensures.entries ∙ c.index-rows-n.is ∙ get_or_default rs n c.index-rows-n.result [] low) in
    let few : length (get_or rs n []) ≤ left = omega (arith, seen, c.if-entries-left.true) in
    let one : suc n ≡ n + 1 = omega arith in
    let rest : length (joined (drop (suc n) rs)) ≡ length (joined (drop (n + 1) rs)) = ap (λ j. length (joined (drop j rs))) one in
    record {
      rows = omega (arith, low);
      left = omega (arith, long, few, passed_length rs n low, rest, c.loop-n.invariant.left);
      same = c.loop-n.invariant.same ∙ passed rs n left low few ∙ ap (λ j. drop (left - length (get_or rs n [])) (joined (drop j rs))) one ∙ ap (λ j. drop (left - j) (joined (drop (n + 1) rs))) (sym long);
    }
