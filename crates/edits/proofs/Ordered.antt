-- Lists of which each element stands in a relation to all later ones.
use Rattle.std.proofs.Common.{◌≡◌, ◌⊎◌, ⊎_elim, inl, inr, ℕ, zero, suc, List, [], ◌∷◌, ◌++◌, refl, sym, ap, subst, ◌∙◌, arith}
use Rattle.std.specs.Prelude.{map}
use Rattle.std.specs.List.{AllByRecursion, Contains}
use Rattle.std.specs.List.Sorted.{IsStrictlySortedBy}
use Rattle.std.specs.declared.cmp.Ordering.TheVariants.{Less}
use Rattle.std.specs.Ordering.{is_lt}
use Rattle.pathkey.specs.Order.{by_bytes}
use Rattle.pathkey.proofs.KeyOrder.{less_from_lt, lt_le, reaches-from_before}
use Rattle.reference.proofs.PathOrder.{not_below_itself}
use Rattle.std.proofs.lemmas.List.Elements.{Contains-append_cases, Contains-append_right}

-- the first element, or one of the others
pub contains_cases : {X : Type 0} (x : X) (xs : List X) (y : X) → Contains (x ∷ xs) y → (x ≡ y) ⊎ Contains xs y
contains_cases x xs y (zero, lt, e) = inl e
contains_cases x xs y (suc n, lt, e) = inr (n, omega (arith, lt), e)

pub contains_first : {X : Type 0} (x : X) (xs : List X) → Contains (x ∷ xs) x
contains_first x xs = (zero, omega arith, refl)

pub contains_more : {X : Type 0} (x : X) (xs : List X) (y : X) → Contains xs y → Contains (x ∷ xs) y
contains_more x xs y (n, lt, e) = (suc n, omega (arith, lt), e)

pub contains_none : {X : Type 0} (y : X) → Contains [] y → ⊥
contains_none y (n, lt, e) = omega (arith, lt)

module _ {X : Type 0} (R : X → X → Type 0) where
  abbrev pub Ordered : List X → Type 0
  Ordered [] = Unit {0}
  Ordered (x ∷ xs) = ((y : X) → Contains xs y → R x y) × Ordered xs

  pub later : (xs : List X) (x : X) (ys : List X) (y : X) → Ordered (xs ++ x ∷ ys) → Contains ys y → R x y
  later [] x ys y o there = o.0 y there
  later (z ∷ xs) x ys y o there = later xs x ys y o.1 there

  pub earlier : (xs : List X) (x : X) (ys : List X) (y : X) → Ordered (xs ++ x ∷ ys) → Contains xs y → R y x
  earlier [] x ys y o there = absurd (contains_none y there)
  earlier (z ∷ xs) x ys y o there = ⊎_elim
      (λ (e : z ≡ y). subst (λ (w : X). R w x) e (o.0 x (Contains-append_right xs (x ∷ ys) x (contains_first x ys))))
      (λ c. earlier xs x ys y o.1 c)
      (contains_cases z xs y there)

-- of a list in parts: in the first, the one between, or the last
pub contains_parts : {X : Type 0} (xs : List X) (x : X) (ys : List X) (y : X) → Contains (xs ++ x ∷ ys) y → Contains xs y ⊎ ((x ≡ y) ⊎ Contains ys y)
contains_parts xs x ys y there = ⊎_elim (λ c. inl c) (λ c. inr (contains_cases x ys y c)) (Contains-append_cases xs (x ∷ ys) y there)

-- ---- lists whose keys rise

module _ {X : Type 0} (key : X → List ℕ) where
  abbrev pub Below : X → X → Type 0
  Below x y = by_bytes (key x) (key y) ≡ Less

  pub ordered : (xs : List X) → IsStrictlySortedBy by_bytes (map key xs) → Ordered Below xs
  unfolding IsStrictlySortedBy
  ordered [] rising = tt
  ordered (x ∷ xs) rising = ((λ y there. each (λ k. by_bytes (key x) k ≡ Less) xs y rising.0 there), ordered xs rising.1)
    where
      each : (P : List ℕ → Type 0) (ys : List X) (y : X) → AllByRecursion P (map key ys) → Contains ys y → P (key y)
      each P [] y all there = absurd (contains_none y there)
      each P (z ∷ ys) y all there = ⊎_elim (λ (e : z ≡ y). subst (λ w. P (key w)) e all.0) (λ c. each P ys y all.1 c) (contains_cases z ys y there)

-- keys below one another
pub below_below : (a b c : List ℕ) → by_bytes a b ≡ Less → by_bytes b c ≡ Less → by_bytes a c ≡ Less
below_below a b c x y = less_from_lt (by_bytes a c) (lt_le a b c (ap is_lt x) (reaches-from_before b c (ap is_lt y)))

below_other : (a b : List ℕ) → by_bytes a b ≡ Less → by_bytes b a ≡ Less → ⊥
below_other a b x y = not_below_itself a (below_below a b a x y)

-- two lists with rising keys that have the same elements are one
pub one_rising : {X : Type 0} (key : X → List ℕ) (xs ys : List X) → Ordered (Below key) xs → Ordered (Below key) ys → ((x : X) → Contains xs x → Contains ys x) → ((y : X) → Contains ys y → Contains xs y) → xs ≡ ys
one_rising key [] [] o r to from = refl
one_rising key [] (y ∷ ys) o r to from = absurd (contains_none y (from y (contains_first y ys)))
one_rising key (x ∷ xs) [] o r to from = absurd (contains_none x (to x (contains_first x xs)))
one_rising {X} key (x ∷ xs) (y ∷ ys) o r to from =
    let rest : xs ≡ ys = one_rising key xs ys o.1 r.1 (λ z there. ⊎_elim (λ (e : y ≡ z). absurd (none z (same ∙ e) (o.0 z there))) (λ c. c) (contains_cases y ys z (to z (contains_more x xs z there))))
    (λ z there. ⊎_elim (λ (e : x ≡ z). absurd (none z e (subst (λ (w : X). Below key w z) (sym same) (r.0 z there)))) (λ c. c) (contains_cases x xs z (from z (contains_more y ys z there)))) in
    let first : x ≡ y = same in
    cc
  where
    same : x ≡ y
    same = ⊎_elim (λ (e : y ≡ x). sym e)
        (λ (in_ys : Contains ys x). ⊎_elim (λ e. e) (λ (in_xs : Contains xs y). absurd (below_other (key x) (key y) (o.0 y in_xs) (r.0 x in_ys))) (contains_cases x xs y (from y (contains_first y ys))))
        (contains_cases y ys x (to x (contains_first x xs)))

    none : (z : X) → x ≡ z → Below key x z → ⊥
    none z e b = not_below_itself (key x) (subst (λ (w : X). Below key x w) (sym e) b)
