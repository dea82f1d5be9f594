use Rattle.std.proofs.Common.{◌≡◌, ◌∷◌, ◌+◌, ◌-◌, ◌≤◌, suc, length, drop, ap, sym, ◌∙◌, subst, arith, rules}
use Rattle.cow_map.specs.CowMap.{joined, behind, AreSized, IsBehind}
use Rattle.cow_map.proofs.Kept.{left_out, passed_first}
use Rattle.cow_map.proofs.shared_rows.passed.Goals as goal

pub returns-clause-left : goal.returns-clause-left
returns-clause-left g c =
    let rs = c.args.rows.now in
    let first = c.in-Some.first.now in
    let later = c.in-Some.later.now in
    let n = c.whole_rows-whole.result.0 in
    let l = c.whole_rows-whole.result.1 in
    let is : rs ≡ first ∷ later = search rules in
    let one : n + 1 ≡ suc n = omega arith in
    let same : drop n later ≡ drop (n + 1) rs = sym (ap (λ t. drop (n + 1) t) is ∙ ap (λ j. drop j (first ∷ later)) one) in
    let sized : AreSized (first ∷ later) = subst (λ t. AreSized t) is c.requires.rows.sized in
    subst (λ t. IsBehind l t) same (left_out l n later sized.2 c.whole_rows-whole.ensures.left c.whole_rows-whole.ensures.within)

pub returns-clause-entries : goal.returns-clause-entries
returns-clause-entries g c =
    let rs = c.args.rows.now in
    let first = c.in-Some.first.now in
    let later = c.in-Some.later.now in
    let n = c.whole_rows-whole.result.0 in
    let l = c.whole_rows-whole.result.1 in
    let o = c.args.left_out in
    let count = c.args.count in
    let is : rs ≡ first ∷ later = search rules in
    let one : n + 1 ≡ suc n = omega arith in
    let same : drop n later ≡ drop (n + 1) rs = sym (ap (λ t. drop (n + 1) t) is ∙ ap (λ j. drop j (first ∷ later)) one) in
    let sized : AreSized (first ∷ later) = subst (λ t. AreSized t) is c.requires.rows.sized in
    let long : length c.entries.result.now ≡ length first = c.entries.ensures.len in
    let few : length first - o ≤ count = omega (arith, long, c.if-count-rest.false) in
    let left : IsBehind l (drop n later) = left_out l n later sized.2 c.whole_rows-whole.ensures.left c.whole_rows-whole.ensures.within in
    let rest = ap (λ j. drop (count - (j - o)) (joined later)) (sym long) ∙ c.whole_rows-whole.ensures.same in
    ap (λ t. joined (behind l t)) (sym same) ∙ passed_first count o l n first later few left rest ∙ ap (λ t. drop count (joined (behind o t))) (sym is)
