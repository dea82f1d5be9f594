-- The entries next to a key.
use Rattle.std.proofs.Common.{◌≡◌, ℕ, suc, ◌+◌, ◌-◌, ◌<◌, true, false, List, [], ◌∷◌, ◌++◌, length, refl, ap, sym, ◌∙◌, Some, None, arith, append-nil}
use Rattle.std.specs.declared.cmp.Ordering.TheVariants.{Less, Equal, Greater}
use Rattle.std.specs.Ordering.{match_ordering}
use Rattle.std.specs.List.{AllByRecursion, slice_get}
use Rattle.std.specs.Map.{keys_of}
use Rattle.std.proofs.lemmas.List.{length-append}
use Rattle.std.proofs.lemmas.Map.Keys.{sorted_head, sorted_tail}
use Rattle.pathkey.specs.Order.{by_bytes, by_bytes_total}
use Rattle.cow_map.specs.Places.{Rises, last_of, place, place_past, is_there, IsHolder, IsGap}
use Rattle.cow_map.specs.CowMap.{joined, AreSized}
use Rattle.cow_map.proofs.Parts.{past_none}

all_like : (k x : List ℕ) (ks : List (List ℕ)) → by_bytes k x ≡ Equal → AllByRecursion (λ y. by_bytes x y ≡ Less) ks → AllByRecursion (λ y. by_bytes k y ≡ Less) ks
all_like k x [] p a = tt
all_like k x (y ∷ ks) p a = (by_bytes_total.congr k x y p ∙ a.0, all_like k x ks p a.1)

module _ {X : Type 0} where
  -- ---- how many stand at a key or before it, where a search found it or not

  past_there : (k : List ℕ) (es : List (List ℕ × X)) → Rises es → is_there k es ≡ true → place_past k es ≡ suc (place k es)
  past_there k [] r t = absurd (cc)
  past_there k (e ∷ es) r t =
      let less = sorted_head by_bytes e.0 (keys_of es) r in
      elim (by_bytes k e.0) as (λ o. by_bytes k e.0 ≡ o → match_ordering o false true (is_there k es) ≡ true → match_ordering o 0 (suc (place_past k es)) (suc (place_past k es)) ≡ suc (match_ordering o 0 0 (suc (place k es)))) [
        | Less ↦ λ p s. absurd (cc)
        | Equal ↦ λ p s. ap (λ n. suc n) (past_none k es (all_like k e.0 (keys_of es) p less))
        | Greater ↦ λ p s. ap (λ n. suc n) (past_there k es (sorted_tail by_bytes e.0 (keys_of es) r) s)
      ] refl t

  past_absent : (k : List ℕ) (es : List (List ℕ × X)) → is_there k es ≡ false → place_past k es ≡ place k es
  past_absent k [] t = refl
  past_absent k (e ∷ es) t =
      elim (by_bytes k e.0) as (λ o. match_ordering o false true (is_there k es) ≡ false → match_ordering o 0 (suc (place_past k es)) (suc (place_past k es)) ≡ match_ordering o 0 0 (suc (place k es))) [
        | Less ↦ λ s. refl
        | Equal ↦ λ s. absurd (cc)
        | Greater ↦ λ s. ap (λ n. suc n) (past_absent k es s)
      ] t

  pub past_holder : (k : List ℕ) (es : List (List ℕ × X)) (i : ℕ) → Rises es → IsHolder k es i → i + 1 ≡ place_past k es
  past_holder k es i r h = omega (arith, h.number, past_there k es r h.there)

  pub past_gap : (k : List ℕ) (es : List (List ℕ × X)) (i : ℕ) → IsGap k es i → i ≡ place_past k es
  past_gap k es i h = h.number ∙ sym (past_absent k es h.absent)

  -- ---- the last entry

  pub last_append : (xs ys : List (List ℕ × X)) → 0 < length ys → last_of (xs ++ ys) ≡ last_of ys
  last_append [] ys l = refl
  last_append (x ∷ xs) ys l =
      let is : length ((x ∷ xs) ++ ys) - 1 ≡ suc (length (xs ++ ys) - 1) = omega (arith, l, length-append xs ys) in
      ap (λ j. slice_get ((x ∷ xs) ++ ys) j) is ∙ last_append xs ys l

  -- of rows
  pub last_row : (rs : List (List (List ℕ × X))) (row : List (List ℕ × X)) → Some row ≡ slice_get rs (length rs - 1) → AreSized rs → last_of row ≡ last_of (joined rs)
  last_row [] row h f = absurd (cc)
  last_row (q ∷ []) row h f =
      let is : length (q ∷ []) - 1 ≡ 0 = omega arith in
      let one : Some row ≡ Some q = h ∙ ap (λ j. slice_get (q ∷ []) j) is in
      let same : row ≡ q = (cc) in
      ap (λ (t : List (List ℕ × X)). last_of t) (same ∙ sym (append-nil q))
  last_row (q ∷ s ∷ rs) row h f =
      let is : length (q ∷ s ∷ rs) - 1 ≡ suc (length (s ∷ rs) - 1) = omega arith in
      last_row (s ∷ rs) row (h ∙ ap (λ j. slice_get (q ∷ s ∷ rs) j) is) f.2 ∙ sym (last_append q (s ++ joined rs) (omega (arith, f.2.0, length-append s (joined rs))))

  pub none_last : (rs : List (List (List ℕ × X))) → None ≡ slice_get rs (length rs - 1) → None ≡ last_of (joined rs)
  none_last [] h = refl
  none_last (q ∷ []) h = (let is : length (q ∷ []) - 1 ≡ 0 = omega arith in absurd (let no : None ≡ Some q = h ∙ ap (λ j. slice_get (q ∷ []) j) is in cc))
  none_last (q ∷ s ∷ rs) h = (let is : length (q ∷ s ∷ rs) - 1 ≡ suc (length (s ∷ rs) - 1) = omega arith in absurd (none_some s rs (h ∙ ap (λ j. slice_get (q ∷ s ∷ rs) j) is)))
    where
      none_some : (s : List (List ℕ × X)) (rs : List (List (List ℕ × X))) → None ≡ slice_get (s ∷ rs) (length (s ∷ rs) - 1) → ⊥
      none_some s [] h = (let is : length (s ∷ []) - 1 ≡ 0 = omega arith in let no : None ≡ Some s = h ∙ ap (λ j. slice_get (s ∷ []) j) is in cc)
      none_some s (r ∷ rs) h = (let is : length (s ∷ r ∷ rs) - 1 ≡ suc (length (r ∷ rs) - 1) = omega arith in none_some r rs (h ∙ ap (λ j. slice_get (s ∷ r ∷ rs) j) is))

  -- whether there is one
  pub none_first : (rs : List (List (List ℕ × X))) → None ≡ slice_get rs 0 → joined rs ≡ []
  none_first [] h = refl
  none_first (r ∷ rs) h = absurd (cc)

  pub some_first : (rs : List (List (List ℕ × X))) (row : List (List ℕ × X)) → Some row ≡ slice_get rs 0 → AreSized rs → 0 < length (joined rs)
  some_first [] row h f = absurd (cc)
  some_first (r ∷ rs) row h f = omega (arith, f.0, length-append r (joined rs))
