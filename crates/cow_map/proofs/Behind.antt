-- Chunks without the first entries of the first one.
use Rattle.std.proofs.Common.{◌≡◌, ℕ, zero, suc, ◌+◌, ◌-◌, ◌<◌, ◌≤◌, List, [], ◌∷◌, length, take, drop, get_or, refl, ap, sym, ◌∙◌, subst, Some, arith}
use Rattle.std.specs.List.{slice_get}
use Rattle.std.proofs.lemmas.List.{length-append, length-drop, drop-append-le}
use Rattle.cow_map.specs.Places.{Rises, last_of}
use Rattle.cow_map.specs.CowMap.{joined, AreSized, AreRows, chunk_index, behind, IsBehind}
use Rattle.cow_map.proofs.Nearest.{last_row}
use Rattle.cow_map.proofs.Parts.{rises_drop, rest_is}
use Rattle.cow_map.proofs.TableFacts.{IsRow}

module _ {X : Type 0} where
  pub behind_joined : (n : ℕ) (rs : List (List (List ℕ × X))) → IsBehind n rs → joined (behind n rs) ≡ drop n (joined rs)
  behind_joined n [] b = ap (λ m. drop m []) (sym b)
  behind_joined n (r ∷ rs) b = sym (drop-append-le n r (joined rs) (omega (arith, b)))

  pub behind_sized : (n : ℕ) (rs : List (List (List ℕ × X))) → AreSized rs → IsBehind n rs → AreSized (behind n rs)
  behind_sized n [] f b = tt
  behind_sized n (r ∷ rs) f b = (omega (arith, b, length-drop n r), omega (arith, f.1, length-drop n r), f.2)

  pub behind_rows : (n : ℕ) (rs : List (List (List ℕ × X))) → AreRows rs → IsBehind n rs → AreRows (behind n rs)
  behind_rows n rs w b = record {
    rises = subst (λ (t : List (List ℕ × X)). Rises t) (sym (behind_joined n rs b)) (rises_drop n (joined rs) w.rises);
    sized = behind_sized n rs w.sized b;
  }

  pub behind_length : (n : ℕ) (rs : List (List (List ℕ × X))) → length (behind n rs) ≡ length rs
  behind_length n [] = refl
  behind_length n (r ∷ rs) = refl

  pub behind_index : (k : List ℕ) (n : ℕ) (rs : List (List (List ℕ × X))) → chunk_index k (behind n rs) ≡ chunk_index k rs
  behind_index k n [] = refl
  behind_index k n (r ∷ rs) = refl

  pub behind_drop : (n m : ℕ) (rs : List (List (List ℕ × X))) → drop (suc m) (behind n rs) ≡ drop (suc m) rs
  behind_drop n m [] = refl
  behind_drop n m (r ∷ rs) = refl

  -- the chunk that was found
  pub behind_row : (n m : ℕ) (rs : List (List (List ℕ × X))) (es : List (List ℕ × X)) → m < length rs → es ≡ get_or (behind n rs) m [] → IsRow (behind n rs) m es
  behind_row n m rs es l e = record { low = omega (arith, l, behind_length n rs); own = e }

  -- the chunks after one
  pub behind_rest : (n m : ℕ) (rs : List (List (List ℕ × X))) → take (length (behind n rs) - (m + 1)) (drop (m + 1) (behind n rs)) ≡ take (length rs - (m + 1)) (drop (m + 1) rs)
  behind_rest n m rs =
      let one : m + 1 ≡ suc m = omega arith in
      rest_is (m + 1) (behind n rs) ∙ ap (λ j. drop j (behind n rs)) one ∙ behind_drop n m rs ∙ ap (λ j. drop j rs) (sym one) ∙ sym (rest_is (m + 1) rs)

  -- whether there is an entry, and how many there are
  pub behind_some : (n : ℕ) (rs : List (List (List ℕ × X))) → IsBehind n rs → 0 < length rs → 0 < length (joined (behind n rs))
  behind_some n [] b l = absurd (omega arith)
  behind_some n (r ∷ rs) b l = omega (arith, b, length-drop n r, length-append (drop n r) (joined rs))

  pub behind_empty : (n : ℕ) (rs : List (List (List ℕ × X))) → length rs ≤ 0 → joined (behind n rs) ≡ []
  behind_empty n [] l = refl
  behind_empty n (r ∷ rs) l = absurd (omega arith)

  -- the last entry
  some_at : (rs : List (List (List ℕ × X))) (m : ℕ) → m < length rs → Some (get_or rs m []) ≡ slice_get rs m
  some_at [] m l = absurd (omega arith)
  some_at (r ∷ rs) zero l = refl
  some_at (r ∷ rs) (suc m) l = some_at rs m (omega arith)

  pub behind_last : (n m : ℕ) (rs : List (List (List ℕ × X))) (es : List (List ℕ × X)) → AreSized rs → IsBehind n rs → m + 1 ≡ length rs → es ≡ get_or (behind n rs) m [] → last_of es ≡ last_of (joined (behind n rs))
  behind_last n m rs es f b l e =
      let is : length (behind n rs) - 1 ≡ m = omega (arith, l, behind_length n rs) in
      let there : Some es ≡ slice_get (behind n rs) (length (behind n rs) - 1) = ap (λ (t : List (List ℕ × X)). Some t) e ∙ some_at (behind n rs) m (omega (arith, l, behind_length n rs)) ∙ ap (λ j. slice_get (behind n rs) j) (sym is) in
      last_row (behind n rs) es there (behind_sized n rs f b)
