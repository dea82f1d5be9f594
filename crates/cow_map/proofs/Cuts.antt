-- What stands in a range, and what is left without it.
use Rattle.std.proofs.Common.{◌≡◌, ℕ, Bool, true, false, not, List, [], ◌∷◌, ◌++◌, get_or, refl, ap, sym, ◌∙◌, subst, Some, cond, append-nil}
use Rattle.std.specs.Prelude.{◌&&◌}
use Rattle.std.specs.declared.cmp.Ordering.TheVariants.{Less}
use Rattle.std.specs.List.{AllByRecursion, filter}
use Rattle.std.specs.Map.{keys_of}
use Rattle.std.proofs.lemmas.List.Elements.{recursion_from_All}
use Rattle.std.proofs.lemmas.Map.Keys.{sorted_head, sorted_tail}
use Rattle.pathkey.specs.Keys.{is_below, is_in}
use Rattle.pathkey.specs.Order.{by_bytes}
use Rattle.pathkey.specs.declared.range.KeyRange.{KeyRange}
use Rattle.pathkey.proofs.KeyOrder.{not_before_from_reaches, not_reaches_from_before}
use Rattle.cow_map.specs.Places.{Rises, reaches, before, AreBefore, AreFrom, AreBelow, AreBeyond}
use Rattle.cow_map.specs.CowMap.{joined, AreRows}
use Rattle.cow_map.proofs.Entries.{rises_cons}
use Rattle.cow_map.proofs.TableFacts.{rows_both}

false_left : (b c : Bool) → b ≡ false → (b && c) ≡ false
false_left b c h = ap (λ a. a && c) h

false_right : (b c : Bool) → c ≡ false → (b && c) ≡ false
false_right true c h = h
false_right false c h = refl

both_true : (b c : Bool) → b ≡ true → c ≡ true → (b && c) ≡ true
both_true b c g h = ap (λ a. a && c) g ∙ h

module _ {X : Type 0} where
  filter-append : (p : List ℕ × X → Bool) (xs ys : List (List ℕ × X)) → filter p (xs ++ ys) ≡ filter p xs ++ filter p ys
  filter-append p [] ys = refl
  filter-append p (x ∷ xs) ys =
      elim (p x) as (λ c. cond c (x ∷ filter p (xs ++ ys)) (filter p (xs ++ ys)) ≡ cond c (x ∷ filter p xs) (filter p xs) ++ filter p ys) [
        | true ↦ ap (λ t. x ∷ t) (filter-append p xs ys)
        | false ↦ filter-append p xs ys
      ]

  -- where the test gives the same at each key
  filter_all : (p : List ℕ → Bool) (es : List (List ℕ × X)) → AllByRecursion (λ q. p q ≡ true) (keys_of es) → filter (λ e. p e.0) es ≡ es
  filter_all p [] a = refl
  filter_all p (e ∷ es) a = ap (λ c. cond c (e ∷ filter (λ x. p x.0) es) (filter (λ x. p x.0) es)) a.0 ∙ ap (λ t. e ∷ t) (filter_all p es a.1)

  filter_none : (p : List ℕ → Bool) (es : List (List ℕ × X)) → AllByRecursion (λ q. p q ≡ false) (keys_of es) → filter (λ e. p e.0) es ≡ []
  filter_none p [] a = refl
  filter_none p (e ∷ es) a = ap (λ c. cond c (e ∷ filter (λ x. p x.0) es) (filter (λ x. p x.0) es)) a.0 ∙ filter_none p es a.1

  all_filter : (P : List ℕ → Type 0) (p : List ℕ × X → Bool) (es : List (List ℕ × X)) → AllByRecursion P (keys_of es) → AllByRecursion P (keys_of (filter p es))
  all_filter P p [] a = tt
  all_filter P p (e ∷ es) a = elim (p e) as (λ c. AllByRecursion P (keys_of (cond c (e ∷ filter p es) (filter p es)))) [
    | true ↦ (a.0, all_filter P p es a.1)
    | false ↦ all_filter P p es a.1
  ]

  rises_filter : (p : List ℕ × X → Bool) (es : List (List ℕ × X)) → Rises es → Rises (filter p es)
  rises_filter p [] r = r
  rises_filter p (e ∷ es) r =
      let rest = rises_filter p es (sorted_tail by_bytes e.0 (keys_of es) r) in
      elim (p e) as (λ c. Rises (cond c (e ∷ filter p es) (filter p es))) [
        | true ↦ rises_cons e.0 e.1 (filter p es) (all_filter (λ y. by_bytes e.0 y ≡ Less) p es (sorted_head by_bytes e.0 (keys_of es) r)) rest
        | false ↦ rest
      ]

  module _ (range : KeyRange) where
    ahead : (es : List (List ℕ × X)) → AllByRecursion (λ q. before q range.lo ≡ true) (keys_of es) → AllByRecursion (λ q. is_in range q ≡ false) (keys_of es)
    ahead [] a = tt
    ahead (e ∷ es) a = (false_left (reaches range.lo e.0) (is_below e.0 range.hi) (not_reaches_from_before e.0 range.lo a.0), ahead es a.1)

    within : (es : List (List ℕ × X)) → AllByRecursion (λ q. reaches range.lo q ≡ true) (keys_of es) → AllByRecursion (λ q. is_below q range.hi ≡ true) (keys_of es) → AllByRecursion (λ q. is_in range q ≡ true) (keys_of es)
    within [] a b = tt
    within (e ∷ es) a b = (both_true (reaches range.lo e.0) (is_below e.0 range.hi) a.0 b.0, within es a.1 b.1)

    beyond : (es : List (List ℕ × X)) → AllByRecursion (λ q. is_below q range.hi ≡ false) (keys_of es) → AllByRecursion (λ q. is_in range q ≡ false) (keys_of es)
    beyond [] a = tt
    beyond (e ∷ es) a = (false_right (reaches range.lo e.0) (is_below e.0 range.hi) a.0, beyond es a.1)

    outside_all : (es : List (List ℕ × X)) → AllByRecursion (λ q. is_in range q ≡ false) (keys_of es) → AllByRecursion (λ q. not (is_in range q) ≡ true) (keys_of es)
    outside_all [] a = tt
    outside_all (e ∷ es) a = (ap not a.0, outside_all es a.1)

    outside_none : (es : List (List ℕ × X)) → AllByRecursion (λ q. is_in range q ≡ true) (keys_of es) → AllByRecursion (λ q. not (is_in range q) ≡ false) (keys_of es)
    outside_none [] a = tt
    outside_none (e ∷ es) a = (ap not a.0, outside_none es a.1)

    left_from : (xs ys : List (List ℕ × X)) (P : List ℕ → Type 0) → AllByRecursion P (keys_of (xs ++ ys)) → AllByRecursion P (keys_of xs)
    left_from [] ys P a = tt
    left_from (x ∷ xs) ys P a = (a.0, left_from xs ys P a.1)

    -- entries before the range, in it and behind it
    module _ (all front rest mid back : List (List ℕ × X)) (parts : all ≡ front ++ rest) (more : rest ≡ mid ++ back) (a : AreBefore range.lo front) (b : AreFrom range.lo rest) (c : AreBelow range.hi mid) (d : AreBeyond range.hi back) where
      whole : all ≡ front ++ (mid ++ back)
      whole = parts ∙ ap (λ t. front ++ t) more

      mid_in : AllByRecursion (λ q. is_in range q ≡ true) (keys_of mid)
      mid_in =
          let from = left_from mid back (λ q. reaches range.lo q ≡ true) (subst (λ (t : List (List ℕ × X)). AllByRecursion (λ q. reaches range.lo q ≡ true) (keys_of t)) more (recursion_from_All (λ q. reaches range.lo q ≡ true) (keys_of rest) b)) in
          within mid from (recursion_from_All (λ q. is_below q range.hi ≡ true) (keys_of mid) c)

      front_out : AllByRecursion (λ q. is_in range q ≡ false) (keys_of front)
      front_out = ahead front (recursion_from_All (λ q. before q range.lo ≡ true) (keys_of front) a)

      back_out : AllByRecursion (λ q. is_in range q ≡ false) (keys_of back)
      back_out = beyond back (recursion_from_All (λ q. is_below q range.hi ≡ false) (keys_of back) d)

      three : (p : List ℕ × X → Bool) → filter p all ≡ filter p front ++ (filter p mid ++ filter p back)
      three p = ap (λ t. filter p t) whole ∙ filter-append p front (mid ++ back) ∙ ap (λ t. filter p front ++ t) (filter-append p mid back)

      pub kept : front ++ back ≡ filter (λ e. not (is_in range e.0)) all
      kept =
          sym (three (λ e. not (is_in range e.0))
          ∙ ap (λ t. t ++ (filter (λ e. not (is_in range e.0)) mid ++ filter (λ e. not (is_in range e.0)) back)) (filter_all (λ q. not (is_in range q)) front (outside_all front front_out))
          ∙ ap (λ t. front ++ (t ++ filter (λ e. not (is_in range e.0)) back)) (filter_none (λ q. not (is_in range q)) mid (outside_none mid mid_in))
          ∙ ap (λ t. front ++ t) (filter_all (λ q. not (is_in range q)) back (outside_all back back_out)))

      pub taken : mid ≡ filter (λ e. is_in range e.0) all
      taken =
          sym (three (λ e. is_in range e.0)
          ∙ ap (λ t. t ++ (filter (λ e. is_in range e.0) mid ++ filter (λ e. is_in range e.0) back)) (filter_none (λ q. is_in range q) front front_out)
          ∙ ap (λ t. t ++ filter (λ e. is_in range e.0) back) (filter_all (λ q. is_in range q) mid mid_in)
          ∙ ap (λ t. mid ++ t) (filter_none (λ q. is_in range q) back back_out)
          ∙ append-nil mid)

      pub kept_rises : Rises all → Rises (front ++ back)
      kept_rises r = subst (λ (t : List (List ℕ × X)). Rises t) (sym kept) (rises_filter (λ e. not (is_in range e.0)) all r)

  pub beyond_from : (k : List ℕ) (es : List (List ℕ × X)) → AreFrom k es → AreBeyond (Some k) es
  beyond_from k es h i d l = not_before_from_reaches k (get_or (keys_of es) i d) (h i d l)

  pub kept_rows : (rs ss ts : List (List (List ℕ × X))) → ts ≡ rs ++ ss → Rises (joined rs ++ joined ss) → AreRows rs → AreRows ss → AreRows ts
  kept_rows rs ss ts t r w v = rows_both rs ss ts t r w.sized v.sized
