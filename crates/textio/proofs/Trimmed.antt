-- Bytes without the zeros at their end.
use Rattle.std.proofs.Common.{◌≡◌, ◌≢◌, ⊎_elim, ℕ, zero, suc, ◌+◌, ◌<◌, ◌≤◌, min, List, [], ◌∷◌, ◌++◌, length, take, get_or, refl, sym, ap, ◌∙◌, arith, length-take}
use Rattle.std.proofs.lemmas.List.{take_more, get_or-take, get_or_past}
use Rattle.std.proofs.lemmas.Bool.{cases_lt}
use Rattle.reference.specs.Image.{trimmed}
use Rattle.reference.proofs.ImageBytes.{keep, trimmed_is}
use Rattle.reference.proofs.LastBlock.{trimmed_same}

-- bytes that end in another than zero are trimmed
trimmed_end : (xs : List ℕ) (b : ℕ) → b ≢ 0 → trimmed (xs ++ b ∷ []) ≡ xs ++ b ∷ []
trimmed_end [] zero ne = absurd (ne refl)
trimmed_end [] (suc b) ne = refl
trimmed_end (x ∷ xs) b ne = trimmed_is x (xs ++ b ∷ []) ∙ ap (keep x) (trimmed_end xs b ne) ∙ some x xs
  where
    some : (x : ℕ) (xs : List ℕ) → keep x (xs ++ b ∷ []) ≡ x ∷ (xs ++ b ∷ [])
    some zero [] = refl
    some zero (y ∷ ys) = refl
    some (suc x) xs = refl

-- a last byte that is zero is trimmed
pub trimmed_less : (bytes : List ℕ) (k : ℕ) → get_or bytes k 0 ≡ 0 → trimmed (take k bytes) ≡ trimmed (take (k + 1) bytes)
trimmed_less bytes k e = trimmed_same (take k bytes) (take (k + 1) bytes) at
  where
    at : (j : ℕ) → get_or (take k bytes) j 0 ≡ get_or (take (k + 1) bytes) j 0
    at j = ⊎_elim
        (λ (h : j < k). get_or-take k bytes j 0 h ∙ sym (get_or-take (k + 1) bytes j 0 (omega arith)))
        (λ (h : k ≤ j).
        get_or_past (take k bytes) j 0 (let l : length (take k bytes) ≡ min k (length bytes) = length-take k bytes in omega arith)
        ∙ ⊎_elim
        (λ (g : j < k + 1). let is : j ≡ k = omega arith in sym (get_or-take (k + 1) bytes j 0 g ∙ ap (λ (i : ℕ). get_or bytes i 0) is ∙ e))
        (λ (g : k + 1 ≤ j). sym (get_or_past (take (k + 1) bytes) j 0 (let l : length (take (k + 1) bytes) ≡ min (k + 1) (length bytes) = length-take (k + 1) bytes in omega arith)))
        (cases_lt j (k + 1)))
        (cases_lt j k)

-- and one that is not zero ends what is kept
pub trimmed_whole : (bytes : List ℕ) (k : ℕ) → k < length bytes → get_or bytes k 0 ≢ 0 → trimmed (take (k + 1) bytes) ≡ take (k + 1) bytes
trimmed_whole bytes k lt ne = ap trimmed (take_more bytes k 0 lt) ∙ trimmed_end (take k bytes) (get_or bytes k 0) ne ∙ sym (take_more bytes k 0 lt)
