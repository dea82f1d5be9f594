-- Two neighbouring rows that become one.
use Rattle.std.proofs.Common.{◌≡◌, ℕ, zero, suc, ◌+◌, ◌-◌, ◌<◌, ◌≤◌, List, [], ◌∷◌, ◌++◌, length, get_or, refl, ap, sym, ◌∙◌, subst, arith, append_assoc}
use Rattle.std.specs.List.{slice_set, insert, remove}
use Rattle.std.proofs.lemmas.List.{length-append}
use Rattle.cow_map.specs.Places.{Rises}
use Rattle.cow_map.specs.CowMap.{joined, AreSized, AreRows}
use Rattle.cow_map.proofs.TableFacts.{sized_at, sized_set}

module _ {X : Type 0} where
  pub get_removed : (m : ℕ) (rs : List (List (List ℕ × X))) → suc m < length rs → get_or (remove rs (suc m)) m [] ≡ get_or rs m []
  get_removed m [] l = absurd (omega arith)
  get_removed zero (r ∷ rs) l = refl
  get_removed (suc m) (r ∷ rs) l = get_removed m rs (omega arith)

  pub length_removed : (m : ℕ) (rs : List (List (List ℕ × X))) → m < length rs → suc (length (remove rs m)) ≡ length rs
  length_removed m [] l = absurd (omega arith)
  length_removed zero (r ∷ rs) l = refl
  length_removed (suc m) (r ∷ rs) l = ap (λ n. suc n) (length_removed m rs (omega arith))

  sized_removed : (m : ℕ) (rs : List (List (List ℕ × X))) → AreSized rs → AreSized (remove rs m)
  sized_removed m [] f = elim m as (λ j. AreSized (remove {X = List (List ℕ × X)} [] j)) [
    | zero ↦ tt
    | suc j ↦ tt
  ]
  sized_removed zero (r ∷ rs) f = f.2
  sized_removed (suc m) (r ∷ rs) f = (f.0, f.1, sized_removed m rs f.2)

  joined_both : (m : ℕ) (rs : List (List (List ℕ × X))) → suc m < length rs → joined (slice_set (remove rs (suc m)) m (get_or rs m [] ++ get_or rs (suc m) [])) ≡ joined rs
  joined_both m [] l = absurd (omega arith)
  joined_both zero (r ∷ []) l = absurd (omega arith)
  joined_both zero (r ∷ s ∷ rs) l = append_assoc r s (joined rs)
  joined_both (suc m) (r ∷ rs) l = ap (λ t. r ++ t) (joined_both m rs (omega arith))

  module _ (rs ss ts : List (List (List ℕ × X))) (m : ℕ) (row new : List (List ℕ × X)) (p : 0 < m) (l : m < length rs) (a : row ≡ get_or rs m []) (s : ss ≡ remove rs m) (t : ts ≡ slice_set ss (m - 1) new) (b : new ≡ get_or ss (m - 1) [] ++ row) where
    both_is : ts ≡ slice_set (remove rs (suc (m - 1))) (m - 1) (get_or rs (m - 1) [] ++ get_or rs (suc (m - 1)) [])
    both_is =
        let one : m ≡ suc (m - 1) = omega (arith, p) in
        let low : suc (m - 1) < length rs = omega (arith, p, l) in
        let removed : ss ≡ remove rs (suc (m - 1)) = s ∙ ap (λ j. remove rs j) one in
        t
        ∙ ap (λ (x : List (List (List ℕ × X))). slice_set x (m - 1) new) removed
        ∙ ap (λ (x : List (List ℕ × X)). slice_set (remove rs (suc (m - 1))) (m - 1) x)
        (b
        ∙ ap (λ (x : List (List ℕ × X)). x ++ row) (ap (λ (x : List (List (List ℕ × X))). get_or x (m - 1) []) removed ∙ get_removed (m - 1) rs low)
        ∙ ap (λ (x : List (List ℕ × X)). get_or rs (m - 1) [] ++ x) (a ∙ ap (λ j. get_or rs j []) one))

    pub both_same : joined ts ≡ joined rs
    both_same = ap (λ (x : List (List (List ℕ × X))). joined x) both_is ∙ joined_both (m - 1) rs (omega (arith, p, l))

    pub both_rows : length (get_or rs (m - 1) []) + length (get_or rs m []) ≤ 128 → AreRows rs → AreRows ts
    both_rows few w =
        let one : m ≡ suc (m - 1) = omega (arith, p) in
        let size = sized_at rs (m - 1) w.sized (omega (arith, p, l)) in
        let long = length-append (get_or rs (m - 1) []) (get_or rs (suc (m - 1)) []) in
        let last : length (get_or rs m []) ≡ length (get_or rs (suc (m - 1)) []) = ap (λ j. length (get_or rs j [])) one in
        record {
          rises = subst (λ (x : List (List ℕ × X)). Rises x) (sym both_same) w.rises;
          sized = subst (λ (x : List (List (List ℕ × X))). AreSized x) (sym both_is)
              (sized_set (m - 1) (remove rs (suc (m - 1))) (get_or rs (m - 1) [] ++ get_or rs (suc (m - 1)) []) (omega (arith, long, size.0)) (omega (arith, long, last, few)) (sized_removed (suc (m - 1)) rs w.sized));
        }

  -- where the row comes back to its place
  pub put_again : (rs ss ts : List (List (List ℕ × X))) (m : ℕ) (row : List (List ℕ × X)) → m < length rs → row ≡ get_or rs m [] → ss ≡ remove rs m → ts ≡ insert ss m row → ts ≡ rs
  put_again rs ss ts m row l a s t = t ∙ ap (λ (x : List (List (List ℕ × X))). insert x m row) s ∙ ap (λ (x : List (List ℕ × X)). insert (remove rs m) m x) a ∙ again m rs l
    where
      again : (m : ℕ) (rs : List (List (List ℕ × X))) → m < length rs → insert (remove rs m) m (get_or rs m []) ≡ rs
      again m [] l = absurd (omega arith)
      again zero (r ∷ rs) l = refl
      again (suc m) (r ∷ rs) l = ap (λ t. r ∷ t) (again m rs (omega arith))

  pub set_again : (rs ss : List (List (List ℕ × X))) (m : ℕ) (row : List (List ℕ × X)) → m < length rs → row ≡ get_or rs m [] → ss ≡ slice_set rs m row → ss ≡ rs
  set_again rs ss m row l a s = s ∙ ap (λ (x : List (List ℕ × X)). slice_set rs m x) a ∙ again m rs l
    where
      again : (m : ℕ) (rs : List (List (List ℕ × X))) → m < length rs → slice_set rs m (get_or rs m []) ≡ rs
      again m [] l = absurd (omega arith)
      again zero (r ∷ rs) l = refl
      again (suc m) (r ∷ rs) l = ap (λ t. r ∷ t) (again m rs (omega arith))
