-- Entries that rise, in parts: what stands before a key and what stands behind it.
use Rattle.std.proofs.Common.{◌≡◌, ℕ, suc, ◌+◌, ◌-◌, ◌≤◌, true, false, List, [], ◌∷◌, ◌++◌, length, take, drop, refl, ap, sym, ◌∙◌, subst, Some, cond, arith}
use Rattle.std.specs.declared.cmp.Ordering.TheVariants.{Less, Equal, Greater}
use Rattle.std.specs.Ordering.{is_lt, is_le, is_eq, match_ordering}
use Rattle.std.specs.List.{AllByRecursion}
use Rattle.std.specs.List.Sorted.{IsStrictlySortedBy}
use Rattle.std.specs.Map.{keys_of}
use Rattle.std.specs.BTreeMap.{insert_entry}
use Rattle.std.proofs.Math.Seq.{drop-append-add, take-append-add}
use Rattle.std.proofs.lemmas.List.{length-drop, map-append, take_all, take-append-drop, drop-append-le, take-append-le}
use Rattle.std.proofs.lemmas.List.Elements.{All-from_recursion}
use Rattle.std.proofs.lemmas.Map.Keys.{sorted_head, sorted_tail}
use Rattle.pathkey.specs.Order.{by_bytes}
use Rattle.pathkey.proofs.KeyOrder.{before_from, before_from_not_reaches, greater_from, le_lt, less_from_lt, lt_le, reaches-from_before}
use Rattle.cow_map.specs.Places.{Rises, at_key, place, place_past, reaches, before, AreBefore, AreFrom}
use Rattle.cow_map.proofs.Entries.{all_ahead, none_ahead}

pub weaker : (P Q : List ℕ → Type 0) (ks : List (List ℕ)) → ((k : List ℕ) → P k → Q k) → AllByRecursion P ks → AllByRecursion Q ks
weaker P Q [] f a = tt
weaker P Q (k ∷ ks) f a = (f k a.0, weaker P Q ks f a.1)

pub reach_rest : (lo x : List ℕ) (ks : List (List ℕ)) → reaches lo x ≡ true → AllByRecursion (λ y. by_bytes x y ≡ Less) ks → AllByRecursion (λ y. reaches lo y ≡ true) ks
reach_rest lo x [] h a = tt
reach_rest lo x (y ∷ ks) h a = (reaches-from_before lo y (le_lt lo x y h (ap is_lt a.0)), reach_rest lo x ks h a.1)

left_all : (P : List ℕ → Type 0) (ks ls : List (List ℕ)) → AllByRecursion P (ks ++ ls) → AllByRecursion P ks
left_all P [] ls a = tt
left_all P (k ∷ ks) ls a = (a.0, left_all P ks ls a.1)

keys_left : (ks ls : List (List ℕ)) → IsStrictlySortedBy by_bytes (ks ++ ls) → IsStrictlySortedBy by_bytes ks
unfolding IsStrictlySortedBy
keys_left [] ls r = tt
keys_left (k ∷ ks) ls r = (left_all (λ y. by_bytes k y ≡ Less) ks ls r.0, keys_left ks ls r.1)

keys_right : (ks ls : List (List ℕ)) → IsStrictlySortedBy by_bytes (ks ++ ls) → IsStrictlySortedBy by_bytes ls
unfolding IsStrictlySortedBy
keys_right [] ls r = r
keys_right (k ∷ ks) ls r = keys_right ks ls r.1

-- all from a place on
pub rest_is : {Y : Type 0} (n : ℕ) (xs : List Y) → take (length xs - n) (drop n xs) ≡ drop n xs
rest_is n xs = take_all (length xs - n) (drop n xs) (omega (arith, length-drop n xs))

module _ {X : Type 0} where
  -- the keys stand before k, or behind it, or at it and behind it
  abbrev pub AllBefore : List ℕ → List (List ℕ × X) → Type 0
  AllBefore k es = AllByRecursion (λ y. by_bytes k y ≡ Greater) (keys_of es)

  abbrev pub AllBehind : List ℕ → List (List ℕ × X) → Type 0
  AllBehind k es = AllByRecursion (λ y. by_bytes k y ≡ Less) (keys_of es)

  abbrev pub AllFrom : List ℕ → List (List ℕ × X) → Type 0
  AllFrom k es = AllByRecursion (λ y. reaches k y ≡ true) (keys_of es)

  pub all_append : (P : List ℕ → Type 0) (es fs : List (List ℕ × X)) → AllByRecursion P (keys_of es) → AllByRecursion P (keys_of fs) → AllByRecursion P (keys_of (es ++ fs))
  all_append P [] fs a b = b
  all_append P (e ∷ es) fs a b = (a.0, all_append P es fs a.1 b)

  pub are_before : (k : List ℕ) (es : List (List ℕ × X)) → AllBefore k es → AreBefore k es
  are_before k es a = All-from_recursion (λ q. before q k ≡ true) (keys_of es) (weaker (λ y. by_bytes k y ≡ Greater) (λ y. before y k ≡ true) (keys_of es) (λ y g. before_from k y g) a)

  pub are_from : (k : List ℕ) (es : List (List ℕ × X)) → AllFrom k es → AreFrom k es
  are_from k es a = All-from_recursion (λ q. reaches k q ≡ true) (keys_of es) a

  -- ---- parts of a list that rises

  pub rises_left : (es fs : List (List ℕ × X)) → Rises (es ++ fs) → Rises es
  rises_left es fs r = keys_left (keys_of es) (keys_of fs) (subst (λ ks. IsStrictlySortedBy by_bytes ks) (map-append (λ (e : List ℕ × X). e.0) es fs) r)

  pub rises_right : (es fs : List (List ℕ × X)) → Rises (es ++ fs) → Rises fs
  rises_right es fs r = keys_right (keys_of es) (keys_of fs) (subst (λ ks. IsStrictlySortedBy by_bytes ks) (map-append (λ (e : List ℕ × X). e.0) es fs) r)

  pub rises_drop : (i : ℕ) (es : List (List ℕ × X)) → Rises es → Rises (drop i es)
  rises_drop i es r = rises_right (take i es) (drop i es) (subst (λ t. Rises t) (sym (take-append-drop i es)) r)

  -- ---- what is done at a key is done among the entries between those before it and those behind it

  at_front : (k : List ℕ) (xs ys : List (List ℕ × X)) → AllBefore k xs → at_key k (xs ++ ys) ≡ at_key k ys
  at_front k [] ys a = refl
  at_front k (x ∷ xs) ys a = ap (λ o. cond (is_eq o) (Some x.1) (at_key k (xs ++ ys))) a.0 ∙ at_front k xs ys a.1

  at_back : (k : List ℕ) (ys zs : List (List ℕ × X)) → AllBehind k zs → at_key k (ys ++ zs) ≡ at_key k ys
  at_back k [] zs a = none_ahead k zs a
  at_back k (y ∷ ys) zs a = ap (λ t. cond (is_eq (by_bytes k y.0)) (Some y.1) t) (at_back k ys zs a)

  pub at_between : (k : List ℕ) (xs ys zs : List (List ℕ × X)) → AllBefore k xs → AllBehind k zs → at_key k (xs ++ (ys ++ zs)) ≡ at_key k ys
  at_between k xs ys zs a b = at_front k xs (ys ++ zs) a ∙ at_back k ys zs b

  put_front : (k : List ℕ) (w : X) (xs ys : List (List ℕ × X)) → AllBefore k xs → insert_entry by_bytes (xs ++ ys) k w ≡ xs ++ insert_entry by_bytes ys k w
  put_front k w [] ys a = refl
  put_front k w (x ∷ xs) ys a =
      ap (λ o. match_ordering o ((k, w) ∷ x ∷ (xs ++ ys)) ((x.0, w) ∷ (xs ++ ys)) (x ∷ insert_entry by_bytes (xs ++ ys) k w)) a.0
      ∙ ap (λ t. x ∷ t) (put_front k w xs ys a.1)

  put_first : (k : List ℕ) (w : X) (zs : List (List ℕ × X)) → AllBehind k zs → insert_entry by_bytes zs k w ≡ (k, w) ∷ zs
  put_first k w [] a = refl
  put_first k w (z ∷ zs) a = ap (λ o. match_ordering o ((k, w) ∷ z ∷ zs) ((z.0, w) ∷ zs) (z ∷ insert_entry by_bytes zs k w)) a.0

  put_back : (k : List ℕ) (w : X) (ys zs : List (List ℕ × X)) → AllBehind k zs → insert_entry by_bytes (ys ++ zs) k w ≡ insert_entry by_bytes ys k w ++ zs
  put_back k w [] zs a = put_first k w zs a
  put_back k w (y ∷ ys) zs a =
      elim (by_bytes k y.0) as (λ o. match_ordering o ((k, w) ∷ y ∷ (ys ++ zs)) ((y.0, w) ∷ (ys ++ zs)) (y ∷ insert_entry by_bytes (ys ++ zs) k w) ≡ match_ordering o ((k, w) ∷ y ∷ ys) ((y.0, w) ∷ ys) (y ∷ insert_entry by_bytes ys k w) ++ zs) [
        | Less ↦ refl
        | Equal ↦ refl
        | Greater ↦ ap (λ t. y ∷ t) (put_back k w ys zs a)
      ]

  pub put_between : (k : List ℕ) (w : X) (xs ys zs : List (List ℕ × X)) → AllBefore k xs → AllBehind k zs → insert_entry by_bytes (xs ++ (ys ++ zs)) k w ≡ xs ++ (insert_entry by_bytes ys k w ++ zs)
  put_between k w xs ys zs a b = put_front k w xs (ys ++ zs) a ∙ ap (λ t. xs ++ t) (put_back k w ys zs b)

  place_front : (k : List ℕ) (xs ys : List (List ℕ × X)) → AllBefore k xs → place k (xs ++ ys) ≡ length xs + place k ys
  place_front k [] ys a = omega arith
  place_front k (x ∷ xs) ys a = (let rest : suc (place k (xs ++ ys)) ≡ length (x ∷ xs) + place k ys = omega (arith, place_front k xs ys a.1) in ap (λ o. match_ordering o 0 0 (suc (place k (xs ++ ys)))) a.0 ∙ rest)

  place_none : (k : List ℕ) (zs : List (List ℕ × X)) → AllBehind k zs → place k zs ≡ 0
  place_none k [] a = refl
  place_none k (z ∷ zs) a = ap (λ o. match_ordering o 0 0 (suc (place k zs))) a.0

  place_back : (k : List ℕ) (ys zs : List (List ℕ × X)) → AllBehind k zs → place k (ys ++ zs) ≡ place k ys
  place_back k [] zs a = place_none k zs a
  place_back k (y ∷ ys) zs a = ap (λ n. match_ordering (by_bytes k y.0) 0 0 (suc n)) (place_back k ys zs a)

  past_front : (k : List ℕ) (xs ys : List (List ℕ × X)) → AllBefore k xs → place_past k (xs ++ ys) ≡ length xs + place_past k ys
  past_front k [] ys a = omega arith
  past_front k (x ∷ xs) ys a = (let rest : suc (place_past k (xs ++ ys)) ≡ length (x ∷ xs) + place_past k ys = omega (arith, past_front k xs ys a.1) in ap (λ o. match_ordering o 0 (suc (place_past k (xs ++ ys))) (suc (place_past k (xs ++ ys)))) a.0 ∙ rest)

  pub past_none : (k : List ℕ) (zs : List (List ℕ × X)) → AllBehind k zs → place_past k zs ≡ 0
  past_none k [] a = refl
  past_none k (z ∷ zs) a = ap (λ o. match_ordering o 0 (suc (place_past k zs)) (suc (place_past k zs))) a.0

  past_back : (k : List ℕ) (ys zs : List (List ℕ × X)) → AllBehind k zs → place_past k (ys ++ zs) ≡ place_past k ys
  past_back k [] zs a = past_none k zs a
  past_back k (y ∷ ys) zs a = ap (λ n. match_ordering (by_bytes k y.0) 0 (suc n) (suc n)) (past_back k ys zs a)

  -- where they are parted
  module _ (k : List ℕ) (xs ys zs : List (List ℕ × X)) (a : AllBefore k xs) (b : AllBehind k zs) where
    pub place_between : place k (xs ++ (ys ++ zs)) ≡ length xs + place k ys
    place_between = place_front k xs (ys ++ zs) a ∙ ap (λ n. length xs + n) (place_back k ys zs b)

    pub past_between : place_past k (xs ++ (ys ++ zs)) ≡ length xs + place_past k ys
    past_between = past_front k xs (ys ++ zs) a ∙ ap (λ n. length xs + n) (past_back k ys zs b)

  pub drop_between : (xs ys zs : List (List ℕ × X)) (i : ℕ) → i ≤ length ys → drop (length xs + i) (xs ++ (ys ++ zs)) ≡ drop i ys ++ zs
  drop_between xs ys zs i l = drop-append-add xs (ys ++ zs) i ∙ drop-append-le i ys zs l

  pub take_between : (xs ys zs : List (List ℕ × X)) (i : ℕ) → i ≤ length ys → take (length xs + i) (xs ++ (ys ++ zs)) ≡ xs ++ take i ys
  take_between xs ys zs i l = take-append-add xs (ys ++ zs) i ∙ ap (λ t. xs ++ t) (take-append-le i ys zs l)

  -- ---- one list that is parted at a key

  pub taken_before : (k : List ℕ) (es : List (List ℕ × X)) → AllBefore k (take (place k es) es)
  taken_before k [] = tt
  taken_before k (e ∷ es) =
      elim (by_bytes k e.0) as (λ o. by_bytes k e.0 ≡ o → AllBefore k (take (match_ordering o 0 0 (suc (place k es))) (e ∷ es))) [
        | Less ↦ λ p. tt
        | Equal ↦ λ p. tt
        | Greater ↦ λ p. (p, taken_before k es)
      ] refl

  pub dropped_from : (k : List ℕ) (es : List (List ℕ × X)) → Rises es → AllFrom k (drop (place k es) es)
  dropped_from k [] r = tt
  dropped_from k (e ∷ es) r =
      let less = sorted_head by_bytes e.0 (keys_of es) r in
      elim (by_bytes k e.0) as (λ o. by_bytes k e.0 ≡ o → AllFrom k (drop (match_ordering o 0 0 (suc (place k es))) (e ∷ es))) [
        | Less ↦ λ p. (let here : reaches k e.0 ≡ true = ap is_le p in (here, reach_rest k e.0 (keys_of es) here less))
        | Equal ↦ λ p. (let here : reaches k e.0 ≡ true = ap is_le p in (here, reach_rest k e.0 (keys_of es) here less))
        | Greater ↦ λ p. dropped_from k es (sorted_tail by_bytes e.0 (keys_of es) r)
      ] refl

  -- ---- what stands before an entry, or behind one

  mid_all : (P : List ℕ → Type 0) (xs : List (List ℕ × X)) (e : List ℕ × X) (es : List (List ℕ × X)) → AllByRecursion P (keys_of (xs ++ e ∷ es)) → P e.0
  mid_all P [] e es a = a.0
  mid_all P (x ∷ xs) e es a = mid_all P xs e es a.1

  pub right_all : (P : List ℕ → Type 0) (xs ys : List (List ℕ × X)) → AllByRecursion P (keys_of (xs ++ ys)) → AllByRecursion P (keys_of ys)
  right_all P [] ys a = a
  right_all P (x ∷ xs) ys a = right_all P xs ys a.1

  -- what stands before an entry at or before the key
  pub before_row : (k : List ℕ) (xs : List (List ℕ × X)) (e : List ℕ × X) (es : List (List ℕ × X)) → Rises (xs ++ e ∷ es) → reaches e.0 k ≡ true → AllBefore k xs
  before_row k [] e es r h = tt
  before_row k (x ∷ xs) e es r h =
      let less = mid_all (λ y. by_bytes x.0 y ≡ Less) xs e es (sorted_head by_bytes x.0 (keys_of (xs ++ e ∷ es)) r) in
      (greater_from k x.0 (lt_le x.0 e.0 k (ap is_lt less) h), before_row k xs e es (sorted_tail by_bytes x.0 (keys_of (xs ++ e ∷ es)) r) h)

  -- what stands at or behind an entry behind the key
  pub behind_row : (k : List ℕ) (e : List ℕ × X) (es : List (List ℕ × X)) → Rises (e ∷ es) → reaches e.0 k ≡ false → AllBehind k (e ∷ es)
  behind_row k e es r h =
      let less = less_from_lt (by_bytes k e.0) (before_from_not_reaches e.0 k h) in
      (less, all_ahead k e.0 (keys_of es) less (sorted_head by_bytes e.0 (keys_of es) r))
