use Rattle.std.proofs.Common.{◌≡◌, ◌≤◌, ◌+◌, ◌-◌, length, take, drop, ap, ◌∙◌, subst}
use Rattle.cow_map.specs.CowMap.{IsBehind}
use Rattle.cow_map.proofs.Behind.{behind_rows}
use Rattle.cow_map.proofs.Kept.{kept_fewer}
use Rattle.cow_map.proofs.Parts.{rest_is}
use Rattle.cow_map.proofs.shared_rows.SharedRows.drop_front.Goals as goal

pub invariant_of-self : goal.invariant_of-self
invariant_of-self g c =
    let rs = c.self.inside.rows.value.items in
    let ss = c.as_slice.result.now in
    let m = c.self.inside.skipped in
    let p = c.passed-skipped.result.0 in
    let l = c.passed-skipped.result.1 in
    let same : ss ≡ rs = c.as_slice.ensures.value ∙ ap (λ v. v.items) c.deref.ensures in
    let slice : take (length ss - m) (drop m ss) ≡ drop m rs = rest_is m ss ∙ ap (λ t. drop m t) same in
    kept_fewer m c.self.inside.left_out p l rs c.self.invariant (subst (λ t. p ≤ length t) slice c.passed-skipped.ensures.bound) (subst (λ t. IsBehind l (drop p t)) slice c.passed-skipped.ensures.left)

pub returns-clause-rows : goal.returns-clause-rows
returns-clause-rows g c =
    let kept = invariant_of-self g c in
    behind_rows c.passed-skipped.result.1 (drop (c.self.inside.skipped + c.passed-skipped.result.0) c.self.inside.rows.value.items) kept.rows kept.left
