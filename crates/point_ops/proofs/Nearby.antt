-- The first keys and the last, and whether one lies in a range.
use Rattle.std.proofs.Common.{◌≡◌, ℕ, suc, ◌-◌, Bool, true, false, ◌&&◌, ◌||◌, cond, List, [], ◌∷◌, length, drop, take, refl, ap, sym, ◌∙◌, subst, Option, Some, None, arith}
use Rattle.std.specs.declared.cmp.Ordering.TheVariants.{Less, Equal, Greater}
use Rattle.std.specs.Ordering.{is_lt, is_le, match_ordering}
use Rattle.std.specs.List.{AllByRecursion, list_any, slice_get}
use Rattle.std.specs.Map.{keys_of}
use Rattle.std.specs.Option.{option_map, option_or}
use Rattle.std.proofs.lemmas.List.Elements.{All-from_recursion, All-head, All-tail}
use Rattle.std.proofs.lemmas.Map.Keys.{sorted_head, sorted_tail}
use Rattle.pathkey.specs.Keys.{is_below, is_in}
use Rattle.pathkey.specs.Order.{by_bytes}
use Rattle.pathkey.specs.declared.range.KeyRange.{KeyRange}
use Rattle.pathkey.proofs.KeyOrder.{le_le, lt_le, before_from_not_reaches, not_before_from_reaches, reaches-from_before, reaches-from_not_before}
use Rattle.message.proofs.KeyOrder.{split_bool}
use Rattle.cow_map.specs.Places.{Rises, before, last_of, place, reaches, AreBefore, AreFrom}
use Rattle.cow_map.proofs.Parts.{reach_rest}
use Rattle.point_ops.specs.PointOps.{first_from, last_below}

-- the key, if there is one, stands below the end
abbrev pub next_below : Option (List ℕ) → Option (List ℕ) → Bool
next_below None hi = false
next_below (Some q) hi = is_below q hi

-- two maps in turn are one
pub map_twice : {A B C : Type 0} (f : A → B) (h : B → C) (o : Option A) → option_map (λ x. h (f x)) o ≡ option_map h (option_map f o)
map_twice f h None = refl
map_twice f h (Some x) = refl

module _ {X : Type 0} where
  -- ---- the first key from one on

  pub from_place : (k : List ℕ) (es : List (List ℕ × X)) → option_map (λ (e : List ℕ × X). e.0) (slice_get (drop (place k es) es) 0) ≡ first_from k es
  from_place k [] = refl
  from_place k (e ∷ es) = elim (by_bytes k e.0) as (λ o. option_map (λ (x : List ℕ × X). x.0) (slice_get (drop (match_ordering o 0 0 (suc (place k es))) (e ∷ es)) 0) ≡ cond (is_le o) (Some e.0) (first_from k es)) [
    | Less ↦ refl
    | Equal ↦ refl
    | Greater ↦ from_place k es
  ]

  -- ---- whether a key lies in a range

  abbrev any_in : KeyRange → List (List ℕ × X) → Bool
  any_in r es = list_any (λ e. is_in r e.0) es

  -- none does behind one that stands at the end or behind it
  none_behind : (r : KeyRange) (x : List ℕ) (es : List (List ℕ × X)) → is_below x r.hi ≡ false → AllByRecursion (λ y. by_bytes x y ≡ Less) (keys_of es) → any_in r es ≡ false
  none_behind r x [] n a = refl
  none_behind r x (e ∷ es) n a =
      let out = not_below r.hi x e.0 n (ap is_lt a.0) in
      ap (λ b. (reaches r.lo e.0 && b) || any_in r es) out ∙ none_either (reaches r.lo e.0) (any_in r es) ∙ none_behind r x es n a.1
    where
      none_either : (a b : Bool) → ((a && false) || b) ≡ b
      none_either true b = refl
      none_either false b = refl

      not_below : (hi : Option (List ℕ)) (x y : List ℕ) → is_below x hi ≡ false → before x y ≡ true → is_below y hi ≡ false
      not_below None x y n b = absurd (cc)
      not_below (Some h) x y n b = not_before_from_reaches h y (le_le h x y (reaches-from_not_before x h n) (reaches-from_before x y b))

  pub any_from : (r : KeyRange) (es : List (List ℕ × X)) → Rises es → next_below (first_from r.lo es) r.hi ≡ any_in r es
  any_from r [] s = refl
  any_from r (e ∷ es) s =
      split_bool (reaches r.lo e.0)
      (λ y.
      ap (λ b. next_below (cond b (Some e.0) (first_from r.lo es)) r.hi) y
      ∙ split_bool (is_below e.0 r.hi)
      (λ i. i ∙ sym (ap (λ b. (b && is_below e.0 r.hi) || any_in r es) y ∙ ap (λ b. b || any_in r es) i))
      (λ n. n ∙ sym (ap (λ b. (b && is_below e.0 r.hi) || any_in r es) y ∙ ap (λ b. b || any_in r es) n ∙ none_behind r e.0 es n (sorted_head by_bytes e.0 (keys_of es) s))))
      (λ m. ap (λ b. next_below (cond b (Some e.0) (first_from r.lo es)) r.hi) m ∙ any_from r es (sorted_tail by_bytes e.0 (keys_of es) s) ∙ sym (ap (λ b. (b && is_below e.0 r.hi) || any_in r es) m))

  -- ---- all keys from the first on, and up to the last

  pub from_first : (lo : List ℕ) (e : List ℕ × X) (es : List (List ℕ × X)) → Some e ≡ slice_get es 0 → Rises es → reaches lo e.0 ≡ true → AreFrom lo es
  from_first lo e [] h r y = absurd (cc)
  from_first lo e (x ∷ es) h r y =
      let is : e ≡ x = cc in
      let here : reaches lo x.0 ≡ true = subst (λ (p : List ℕ × X). reaches lo p.0 ≡ true) is y in
      All-from_recursion (λ q. reaches lo q ≡ true) (keys_of (x ∷ es)) (here, reach_rest lo x.0 (keys_of es) here (sorted_head by_bytes x.0 (keys_of es) r))

  pub not_from_first : (lo : List ℕ) (e : List ℕ × X) (es : List (List ℕ × X)) → Some e ≡ slice_get es 0 → reaches lo e.0 ≡ false → AreFrom lo es → ⊥
  not_from_first lo e [] h n a = cc
  not_from_first lo e (x ∷ es) h n a =
      let is : e ≡ x = cc in
      let here : reaches lo x.0 ≡ true = All-head (λ q. reaches lo q ≡ true) x.0 (keys_of es) a in
      let no : reaches lo x.0 ≡ false = subst (λ (p : List ℕ × X). reaches lo p.0 ≡ false) is n in
      cc

  last_later : (x y : List ℕ × X) (es : List (List ℕ × X)) → last_of (x ∷ y ∷ es) ≡ last_of (y ∷ es)
  last_later x y es = (let is : length (x ∷ y ∷ es) - 1 ≡ suc (length (y ∷ es) - 1) = omega arith in ap (λ i. slice_get (x ∷ y ∷ es) i) is)

  last_only : (x : List ℕ × X) → last_of (x ∷ []) ≡ Some x
  last_only x = (let is : length (x ∷ []) - 1 ≡ 0 = omega arith in ap (λ i. slice_get (x ∷ []) i) is)

  up_to_last : (p : List ℕ) (e : List ℕ × X) (es : List (List ℕ × X)) → Some e ≡ last_of es → Rises es → before e.0 p ≡ true → AllByRecursion (λ q. before q p ≡ true) (keys_of es)
  up_to_last p e [] h r y = tt
  up_to_last p e (x ∷ []) h r y = (let is : Some e ≡ Some x = h ∙ last_only x in let one : e ≡ x = cc in (subst (λ (t : List ℕ × X). before t.0 p ≡ true) one y, tt))
  up_to_last p e (x ∷ z ∷ es) h r y =
      let rest = up_to_last p e (z ∷ es) (h ∙ last_later x z es) (sorted_tail by_bytes x.0 (keys_of (z ∷ es)) r) y in
      let less = sorted_head by_bytes x.0 (keys_of (z ∷ es)) r in
      (lt_le x.0 z.0 p (ap is_lt less.0) (reaches-from_before z.0 p rest.0), rest)

  pub before_last : (p : List ℕ) (e : List ℕ × X) (es : List (List ℕ × X)) → Some e ≡ last_of es → Rises es → before e.0 p ≡ true → AreBefore p es
  before_last p e es h r y = All-from_recursion (λ q. before q p ≡ true) (keys_of es) (up_to_last p e es h r y)

  pub not_before_last : (p : List ℕ) (e : List ℕ × X) (es : List (List ℕ × X)) → Some e ≡ last_of es → before e.0 p ≡ false → AreBefore p es → ⊥
  not_before_last p e [] h n a = cc
  not_before_last p e (x ∷ []) h n a =
      let is : Some e ≡ Some x = h ∙ last_only x in
      let one : e ≡ x = cc in
      let here : before x.0 p ≡ true = All-head (λ q. before q p ≡ true) x.0 [] a in
      let no : before x.0 p ≡ false = subst (λ (t : List ℕ × X). before t.0 p ≡ false) one n in
      cc
  not_before_last p e (x ∷ z ∷ es) h n a = not_before_last p e (z ∷ es) (h ∙ last_later x z es) n (All-tail (λ q. before q p ≡ true) x.0 (keys_of (z ∷ es)) a)

  -- ---- the last key before an end

  last_cons : (x : List ℕ × X) (es : List (List ℕ × X)) → last_of (x ∷ es) ≡ option_or (last_of es) (Some x)
  last_cons x [] = last_only x
  last_cons x (y ∷ es) = last_later x y es ∙ last_cons y es ∙ sym (or_last (last_of es)) ∙ ap (λ o. option_or o (Some x)) (sym (last_cons y es))
    where
      or_last : (o : Option (List ℕ × X)) → option_or (option_or o (Some y)) (Some x) ≡ option_or o (Some y)
      or_last None = refl
      or_last (Some z) = refl

  key_cons : (x : List ℕ × X) (es : List (List ℕ × X)) (o : Option (List ℕ)) → option_map (λ (e : List ℕ × X). e.0) (last_of es) ≡ o → option_map (λ (e : List ℕ × X). e.0) (last_of (x ∷ es)) ≡ option_or o (Some x.0)
  key_cons x es o is = ap (option_map (λ (e : List ℕ × X). e.0)) (last_cons x es) ∙ map_or (last_of es) ∙ ap (λ p. option_or p (Some x.0)) is
    where
      map_or : (p : Option (List ℕ × X)) → option_map (λ (e : List ℕ × X). e.0) (option_or p (Some x)) ≡ option_or (option_map (λ (e : List ℕ × X). e.0) p) (Some x.0)
      map_or None = refl
      map_or (Some z) = refl

  pub last_all : (es : List (List ℕ × X)) → option_map (λ (e : List ℕ × X). e.0) (last_of es) ≡ last_below None es
  last_all [] = refl
  last_all (e ∷ es) = key_cons e es (last_below None es) (last_all es)

  -- none is before an end that is at or before the first key
  none_below : (k x : List ℕ) (es : List (List ℕ × X)) → reaches k x ≡ true → AllByRecursion (λ y. by_bytes x y ≡ Less) (keys_of es) → last_below (Some k) es ≡ None
  none_below k x [] r a = refl
  none_below k x (e ∷ es) r a =
      let out : before e.0 k ≡ false = not_before_from_reaches k e.0 (le_le k x e.0 r (reaches-from_before x e.0 (ap is_lt a.0))) in
      ap (λ o. option_or o (cond (before e.0 k) (Some e.0) None)) (none_below k x es r a.1) ∙ ap (λ b. cond b (Some e.0) None) out

  pub last_place : (k : List ℕ) (es : List (List ℕ × X)) → Rises es → option_map (λ (e : List ℕ × X). e.0) (last_of (take (place k es) es)) ≡ last_below (Some k) es
  last_place k [] s = refl
  last_place k (e ∷ es) s = (elim (by_bytes k e.0) as (λ o. by_bytes k e.0 ≡ o → option_map (λ (x : List ℕ × X). x.0) (last_of (take (match_ordering o 0 0 (suc (place k es))) (e ∷ es))) ≡ last_below (Some k) (e ∷ es)) [
    | Less ↦ λ q. sym (none_here (ap is_le q))
    | Equal ↦ λ q. sym (none_here (ap is_le q))
    | Greater ↦ λ q. key_cons e (take (place k es) es) (last_below (Some k) es) (last_place k es (sorted_tail by_bytes e.0 (keys_of es) s)) ∙ sym (ap (λ b. option_or (last_below (Some k) es) (cond b (Some e.0) None)) (before_from_not_reaches k e.0 (ap is_le q)))
  ]) refl
    where
      none_here : reaches k e.0 ≡ true → last_below (Some k) (e ∷ es) ≡ None
      none_here r = ap (λ o. option_or o (cond (before e.0 k) (Some e.0) None)) (none_below k e.0 es r (sorted_head by_bytes e.0 (keys_of es) s)) ∙ ap (λ b. cond b (Some e.0) None) (not_before_from_reaches k e.0 r)
