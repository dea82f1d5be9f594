use Rattle.std.proofs.Common.{rules, ◌≡◌, ◌≤◌, ◌++◌, [], ◌∷◌, List, ℕ, eqb, arith, refl, sym, ap, ◌∙◌, get_or, length}
use Rattle.std.proofs.lemmas.Bool.Decides.{Decides-eqb}
use Rattle.std.proofs.lemmas.Option.{MatchOption-at_none, MatchOption-at_some}
use Rattle.std.proofs.lemmas.Slice.Eq.{strip_prefix_is}
use Rattle.pathkey.specs.Keys.{enc}
use Rattle.volume.proofs.walk.is_of.Goals as goal

-- a list that begins with an element
cons_of : (l : List ℕ) (a : ℕ) → 1 ≤ length l → get_or l 0 0 ≡ a → (z : List ℕ) × (l ≡ a ∷ z)
cons_of [] a l e = absurd (omega arith)
cons_of (x ∷ xs) a l e = (xs, ap (λ (y : ℕ). y ∷ xs) e)

-- the byte after the path's key is 0
first_is : (c : goal.In-Some-eq0) → get_or c.in-Some-eq0.field-0.now 0 0 ≡ 0
first_is c = search rules

pub returns-in-Some-eq0 : goal.returns-in-Some-eq0
returns-in-Some-eq0 c =
    let old = c.as_bytes-2.ensures ∙ c.key.ensures.value in
    let rest = c.in-Some-eq0.field-0.now in
    let split = MatchOption-at_some _ _ _ c.in-Some-eq0.is (strip_prefix_is {E = eqb} Decides-eqb _ _ _ c.strip_prefix.ensures.cases) in
    let first = cons_of rest 0 c.in-Some-eq0.len_at_least (first_is c) in (
      λ _. (first.0, sym c.as_bytes.ensures ∙ split ∙ ap (λ (x : List ℕ). x ++ rest) old ∙ ap (λ (x : List ℕ). enc c.args.path.now ++ x) first.1),
      λ _. refl,
    )

pub returns-in_default-3 : goal.returns-in_default-3
returns-in_default-3 c = (
  λ e. absurd (cc),
  λ (z, e).
      let old = c.as_bytes-2.ensures ∙ c.key.ensures.value in
      absurd (MatchOption-at_none _ _ c.in_default.is (strip_prefix_is {E = eqb} Decides-eqb _ _ _ c.strip_prefix.ensures.cases)
      (0 ∷ z) (c.as_bytes.ensures ∙ e ∙ ap (λ (x : List ℕ). x ++ 0 ∷ z) (sym old))),
)
