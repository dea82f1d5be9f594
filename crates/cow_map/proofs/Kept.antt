-- The chunks that a map keeps of shared ones when entries are dropped.
use Rattle.std.proofs.Common.{◌≡◌, ℕ, zero, suc, ◌+◌, ◌-◌, ◌<◌, ◌≤◌, List, [], ◌∷◌, ◌++◌, length, drop, Option, Some, None, ap, sym, ◌∙◌, subst, refl, arith}
use Rattle.std.specs.List.{slice_index_or}
use Rattle.std.proofs.lemmas.List.{length-drop, drop-drop}
use Rattle.cow_map.specs.CowMap.{joined, AreSized, AreRows, behind, kept, IsBehind, IsKept}
use Rattle.cow_map.proofs.Behind.{behind_joined}
use Rattle.cow_map.proofs.TableFacts.{rows_back}

module _ {X : Type 0} where
  -- fewer entries are left out than the chunk has
  pub left_out : (l n : ℕ) (rs : List (List (List ℕ × X))) → AreSized rs → l ≤ length (joined (drop n rs)) → (0 < l → (n < length rs) × (l < length (slice_index_or rs n []))) → IsBehind l (drop n rs)
  left_out l zero [] f b s = omega (arith, b)
  left_out l (suc n) [] f b s = omega (arith, b)
  left_out zero zero (r ∷ rs) f b s = f.0
  left_out (suc l) zero (r ∷ rs) f b s = (s (omega arith)).1
  left_out l (suc n) (r ∷ rs) f b s = left_out l n rs f.2 b (λ h. (omega (arith, (s h).0), (s h).1))

  -- the first entries of a list and the others
  drop_past : (n : ℕ) (xs ys : List (List ℕ × X)) → length xs ≤ n → drop n (xs ++ ys) ≡ drop (n - length xs) ys
  drop_past n [] ys l = ap (λ m. drop m ys) (omega arith)
  drop_past zero (x ∷ xs) ys l = absurd (omega (arith, l))
  drop_past (suc n) (x ∷ xs) ys l = drop_past n xs ys (omega (arith, l)) ∙ ap (λ m. drop m ys) (omega arith)

  -- the first chunk is passed, and then n others, without l entries of the next
  pub passed_first : (count o l n : ℕ) (r : List (List ℕ × X)) (rs : List (List (List ℕ × X))) → length r - o ≤ count → IsBehind l (drop n rs) → drop (count - (length r - o)) (joined rs) ≡ drop l (joined (drop n rs)) → joined (behind l (drop n rs)) ≡ drop count (joined (behind o (r ∷ rs)))
  passed_first count o l n r rs few b same =
      let long : length (drop o r) ≡ length r - o = length-drop o r in
      behind_joined l (drop n rs) b ∙ sym same ∙ ap (λ m. drop (count - m) (joined rs)) (sym long) ∙ sym (drop_past count (drop o r) (joined rs) (omega (arith, long, few)))

  -- a map keeps fewer of the chunks
  pub kept_fewer : (m n p l : ℕ) (rs : List (List (List ℕ × X))) → IsKept m n rs → p ≤ length (drop m rs) → IsBehind l (drop p (drop m rs)) → IsKept (m + p) l rs
  kept_fewer m n p l rs k few b =
      let more : drop p (drop m rs) ≡ drop (m + p) rs = drop-drop p m rs in
      record {
        skipped = omega (arith, k.skipped, few, length-drop m rs);
        rows = rows_back p (drop m rs) (drop (m + p) rs) (sym more) k.rows;
        left = subst (λ (t : List (List (List ℕ × X))). IsBehind l t) more b;
      }

  -- the chunks of a map without shared ones
  pub own_rows : (rs : List (List (List ℕ × X))) (shared : Option (List (List (List ℕ × X)))) → shared ≡ None → AreRows (kept rs shared) → AreRows rs
  own_rows rs None n w = w
  own_rows rs (Some ss) n w = absurd (cc)

  pub own_entries : (rs : List (List (List ℕ × X))) (shared : Option (List (List (List ℕ × X)))) → shared ≡ None → joined rs ≡ joined (kept rs shared)
  own_entries rs None n = refl
  own_entries rs (Some ss) n = absurd (cc)
