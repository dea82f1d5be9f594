-- Rows one behind the other: which of them has a key, and what a change of that one makes of all.
use Rattle.std.proofs.Common.{◌≡◌, ℕ, zero, suc, ◌+◌, ◌<◌, ◌≤◌, true, false, List, [], ◌∷◌, ◌++◌, length, take, drop, get_or, refl, ap, sym, ◌∙◌, subst, cond, arith, append_assoc, append-nil}
use Rattle.std.specs.declared.cmp.Ordering.TheVariants.{Less, Greater}
use Rattle.std.specs.Ordering.{is_le}
use Rattle.std.specs.List.{slice_set, insert}
use Rattle.std.specs.List.Sorted.{IsStrictlySortedBy, IsPartitionPoint}
use Rattle.std.proofs.lemmas.List.{get_or_default, length-take, length-drop, take-append-drop, take_more, drop_more, take_all, drop_all}
use Rattle.pathkey.specs.Order.{by_bytes}
use Rattle.cow_map.specs.Places.{Rises, place, reaches, AreBefore, AreFrom}
use Rattle.cow_map.specs.CowMap.{joined, AreSized, AreRows, starts_at_or_before, row_number, chunk_index}
use Rattle.cow_map.proofs.Parts.{AllBefore, AllBehind, AllFrom, weaker, all_append, are_before, are_from, before_row, behind_row, dropped_from, rises_left, rises_right, taken_before}

module _ {X : Type 0} where
  -- ---- rows end to end

  pub joined-append : (rs ss : List (List (List ℕ × X))) → joined (rs ++ ss) ≡ joined rs ++ joined ss
  joined-append [] ss = refl
  joined-append (r ∷ rs) ss = ap (λ t. r ++ t) (joined-append rs ss) ∙ sym (append_assoc r (joined rs) (joined ss))

  joined_push : (rs : List (List (List ℕ × X))) (r : List (List ℕ × X)) → joined (rs ++ r ∷ []) ≡ joined rs ++ r
  joined_push rs r = joined-append rs (r ∷ []) ∙ ap (λ (t : List (List ℕ × X)). joined rs ++ t) (append-nil r)

  pub joined_cut : (m : ℕ) (rs : List (List (List ℕ × X))) → m < length rs → joined rs ≡ joined (take m rs) ++ (get_or rs m [] ++ joined (drop (suc m) rs))
  joined_cut m [] h = absurd (omega arith)
  joined_cut zero (r ∷ rs) h = refl
  joined_cut (suc m) (r ∷ rs) h = ap (λ t. r ++ t) (joined_cut m rs (omega arith)) ∙ sym (append_assoc r (joined (take m rs)) (get_or rs m [] ++ joined (drop (suc m) rs)))

  pub joined_set : (m : ℕ) (rs : List (List (List ℕ × X))) (r : List (List ℕ × X)) → m < length rs → joined (slice_set rs m r) ≡ joined (take m rs) ++ (r ++ joined (drop (suc m) rs))
  joined_set m [] r h = absurd (omega arith)
  joined_set zero (x ∷ rs) r h = refl
  joined_set (suc m) (x ∷ rs) r h = ap (λ t. x ++ t) (joined_set m rs r (omega arith)) ∙ sym (append_assoc x (joined (take m rs)) (r ++ joined (drop (suc m) rs)))

  pub sized-append : (rs ss : List (List (List ℕ × X))) → AreSized rs → AreSized ss → AreSized (rs ++ ss)
  sized-append [] ss f g = g
  sized-append (r ∷ rs) ss f g = (f.0, f.1, sized-append rs ss f.2 g)

  pub sized_at : (rs : List (List (List ℕ × X))) (m : ℕ) → AreSized rs → m < length rs → (0 < length (get_or rs m [])) × (length (get_or rs m []) ≤ 128)
  sized_at [] m f h = absurd (omega arith)
  sized_at (r ∷ rs) zero f h = (f.0, f.1)
  sized_at (r ∷ rs) (suc m) f h = sized_at rs m f.2 (omega arith)

  pub sized_take : (m : ℕ) (rs : List (List (List ℕ × X))) → AreSized rs → AreSized (take m rs)
  sized_take zero rs f = tt
  sized_take (suc m) [] f = tt
  sized_take (suc m) (r ∷ rs) f = (f.0, f.1, sized_take m rs f.2)

  pub sized_drop : (m : ℕ) (rs : List (List (List ℕ × X))) → AreSized rs → AreSized (drop m rs)
  sized_drop zero rs f = f
  sized_drop (suc m) [] f = tt
  sized_drop (suc m) (r ∷ rs) f = sized_drop m rs f.2

  pub sized_set : (m : ℕ) (rs : List (List (List ℕ × X))) (r : List (List ℕ × X)) → 0 < length r → length r ≤ 128 → AreSized rs → AreSized (slice_set rs m r)
  sized_set m [] r h l f = f
  sized_set zero (x ∷ rs) r h l f = (h, l, f.2)
  sized_set (suc m) (x ∷ rs) r h l f = (f.0, f.1, sized_set m rs r h l f.2)

  sized_insert : (n : ℕ) (rs : List (List (List ℕ × X))) (r : List (List ℕ × X)) → 0 < length r → length r ≤ 128 → AreSized rs → AreSized (insert rs n r)
  sized_insert zero rs r h l f = (h, l, f)
  sized_insert (suc n) [] r h l f = (h, l, f)
  sized_insert (suc n) (x ∷ rs) r h l f = (f.0, f.1, sized_insert n rs r h l f.2)

  pub rows_tail : (rs : List (List (List ℕ × X))) (r : List (List ℕ × X)) (ss : List (List (List ℕ × X))) → rs ≡ r ∷ ss → AreRows rs → AreRows ss
  rows_tail rs r ss e w =
      let v = subst (λ (t : List (List (List ℕ × X))). AreRows t) e w in
      record { rises = rises_right r (joined ss) v.rises; sized = v.sized.2 }

  pub rows_none : (rs : List (List (List ℕ × X))) → rs ≡ [] → AreRows rs
  unfolding IsStrictlySortedBy
  rows_none rs e = subst (λ (t : List (List (List ℕ × X))). AreRows t) (sym e) (record { rises = tt; sized = tt })

  -- a first row of one entry
  pub rows_one : (rs : List (List (List ℕ × X))) (e : List ℕ × X) → rs ≡ (e ∷ []) ∷ [] → AreRows rs
  unfolding IsStrictlySortedBy
  rows_one rs e h = subst (λ (t : List (List (List ℕ × X))). AreRows t) (sym h) (record { rises = (tt, tt); sized = (omega arith, omega arith, tt) })

  pub row_rises : (rs : List (List (List ℕ × X))) (n : ℕ) → AreRows rs → n < length rs → Rises (get_or rs n [])
  row_rises rs n w l =
      let all = subst (λ (t : List (List ℕ × X)). Rises t) (joined_cut n rs l) w.rises in
      rises_left (get_or rs n []) (joined (drop (suc n) rs)) (rises_right (joined (take n rs)) (get_or rs n [] ++ joined (drop (suc n) rs)) all)

  -- ---- the entries of the row that a look-up found

  pub record IsRow (rs : List (List (List ℕ × X))) (n : ℕ) (es : List (List ℕ × X)) : Type 0 where
    pub low : n < length rs
    pub own : es ≡ get_or rs n []

  pub row_found : (rs : List (List (List ℕ × X))) (n : ℕ) (row es : List (List ℕ × X)) → n < length rs → row ≡ get_or rs n row → es ≡ row → IsRow rs n es
  row_found rs n row es l at e = record { low = l; own = e ∙ at ∙ get_or_default rs n row [] l }

  pub found_rises : (rs : List (List (List ℕ × X))) (n : ℕ) (es : List (List ℕ × X)) → AreRows rs → IsRow rs n es → Rises es
  found_rises rs n es w f = subst (λ (t : List (List ℕ × X)). Rises t) (sym f.own) (row_rises rs n w f.low)

  -- ---- the number of a row

  pub number_bound : (k : List ℕ) (rs : List (List (List ℕ × X))) → row_number k rs ≤ length rs
  number_bound k [] = omega arith
  number_bound k (r ∷ rs) = elim (starts_at_or_before k r) as (λ c. cond c (suc (row_number k rs)) 0 ≤ length (r ∷ rs)) [
    | true ↦ omega (arith, number_bound k rs)
    | false ↦ omega arith
  ]

  -- each row with a lesser number begins at the key or before it
  pub begins_at : (k : List ℕ) (rs : List (List (List ℕ × X))) (m : ℕ) → m < row_number k rs → starts_at_or_before k (get_or rs m []) ≡ true
  begins_at k [] m h = absurd (omega arith)
  begins_at k (r ∷ rs) zero h =
      elim (starts_at_or_before k r) as (λ c. starts_at_or_before k r ≡ c → 0 < cond c (suc (row_number k rs)) 0 → starts_at_or_before k r ≡ true) [
        | true ↦ λ p l. p
        | false ↦ λ p l. absurd (omega arith)
      ] refl h
  begins_at k (r ∷ rs) (suc m) h =
      elim (starts_at_or_before k r) as (λ c. suc m < cond c (suc (row_number k rs)) 0 → starts_at_or_before k (get_or rs m []) ≡ true) [
        | true ↦ λ l. begins_at k rs m (omega arith)
        | false ↦ λ l. absurd (omega arith)
      ] h

  -- the next one does not
  pub stops_at : (k : List ℕ) (rs : List (List (List ℕ × X))) → row_number k rs < length rs → starts_at_or_before k (get_or rs (row_number k rs) []) ≡ false
  stops_at k [] h = absurd (omega arith)
  stops_at k (r ∷ rs) h =
      elim (starts_at_or_before k r) as (λ c. starts_at_or_before k r ≡ c → cond c (suc (row_number k rs)) 0 < length (r ∷ rs) → starts_at_or_before k (get_or (r ∷ rs) (cond c (suc (row_number k rs)) 0) []) ≡ false) [
        | true ↦ λ p l. stops_at k rs (omega arith)
        | false ↦ λ p l. p
      ] refl h

  pub number_by_search : (k : List ℕ) (rs : List (List (List ℕ × X))) (i : ℕ) → i ≤ length rs → IsPartitionPoint (λ r. starts_at_or_before k r ≡ true) (λ r. starts_at_or_before k r ≡ false) rs i → i ≡ row_number k rs
  number_by_search k [] i b p = omega arith
  number_by_search k (r ∷ rs) zero b p = sym (ap (λ c. cond c (suc (row_number k rs)) 0) (p.1 0 r (omega arith) (omega arith)))
  number_by_search k (r ∷ rs) (suc i) b p =
      let rest = number_by_search k rs i (omega arith) ((λ j d a h. p.0 (suc j) d (omega arith) (omega arith)), (λ j d a h. p.1 (suc j) d (omega arith) (omega arith))) in
      ap (λ n. suc n) rest ∙ sym (ap (λ c. cond c (suc (row_number k rs)) 0) (p.0 0 r (omega arith) (omega arith)))

  pub get_drop : (n : ℕ) (rs : List (List (List ℕ × X))) → get_or (drop n rs) 0 [] ≡ get_or rs n []
  get_drop zero rs = refl
  get_drop (suc n) [] = refl
  get_drop (suc n) (r ∷ rs) = get_drop n rs

  before_list : (k : List ℕ) (xs row rest : List (List ℕ × X)) → Rises (xs ++ (row ++ rest)) → starts_at_or_before k row ≡ true → AllBefore k xs
  before_list k xs [] rest r h = absurd (cc)
  before_list k xs (e ∷ es) rest r h = before_row k xs e (es ++ rest) r h

  behind_rows : (k : List ℕ) (rs : List (List (List ℕ × X))) → Rises (joined rs) → AreSized rs → (0 < length rs → starts_at_or_before k (get_or rs 0 []) ≡ false) → AllBehind k (joined rs)
  behind_rows k [] r f h = tt
  behind_rows k ([] ∷ rs) r f h = absurd (let none = f.0 in omega arith)
  behind_rows k ((e ∷ es) ∷ rs) r f h = behind_row k e (es ++ joined rs) r (h (omega arith))

  pub front_before : (k : List ℕ) (rs : List (List (List ℕ × X))) (n : ℕ) → AreRows rs → n ≡ chunk_index k rs → n < length rs → AllBefore k (joined (take n rs))
  front_before k rs zero w e l = tt
  front_before k [] (suc m) w e l = absurd (omega arith)
  front_before k (r ∷ rs) (suc m) w e l =
      let here : starts_at_or_before k (get_or rs m []) ≡ true = begins_at k rs m (omega (arith, e)) in
      before_list k (joined (take (suc m) (r ∷ rs))) (get_or rs m []) (joined (drop (suc m) rs)) (subst (λ (t : List (List ℕ × X)). Rises t) (joined_cut (suc m) (r ∷ rs) l) w.rises) here

  pub back_behind : (k : List ℕ) (rs : List (List (List ℕ × X))) (n : ℕ) → AreRows rs → n ≡ chunk_index k rs → n < length rs → AllBehind k (joined (drop (suc n) rs))
  back_behind k [] n w e l = absurd (omega arith)
  back_behind k (r ∷ rs) n w e l =
      let front = joined (take n (r ∷ rs)) in
      let row = get_or (r ∷ rs) n [] in
      let parts : Rises ((front ++ row) ++ joined (drop n rs)) = subst (λ (t : List (List ℕ × X)). Rises t) (joined_cut n (r ∷ rs) l ∙ sym (append_assoc front row (joined (drop n rs)))) w.rises in
      behind_rows k (drop n rs) (rises_right (front ++ row) (joined (drop n rs)) parts) (sized_drop n rs w.sized.2) (λ a.
      let there : row_number k rs < length rs = omega (arith, a, e, length-drop n rs) in
      ap (λ (t : List (List ℕ × X)). starts_at_or_before k t) (get_drop n rs) ∙ ap (λ m. starts_at_or_before k (get_or rs m [])) e ∙ stops_at k rs there)

  -- ---- the row that has a key, between those before it and those behind it

  -- all entries, with those that stand before the row and behind it
  pub record IsAround (k : List ℕ) (rs : List (List (List ℕ × X))) (n : ℕ) (row : List (List ℕ × X)) : Type 0 where
    pub front : List (List ℕ × X)
    pub back : List (List ℕ × X)
    pub is_front : front ≡ joined (take n rs)
    pub is : joined rs ≡ front ++ (row ++ back)
    pub set : (new : List (List ℕ × X)) → joined (slice_set rs n new) ≡ front ++ (new ++ back)
    pub before : AllBefore k front
    pub behind : AllBehind k back

  pub around : (k : List ℕ) (rs : List (List (List ℕ × X))) (n : ℕ) → AreRows rs → n ≡ chunk_index k rs → n < length rs → IsAround k rs n (get_or rs n [])
  around k rs n w e l = record {
    front = joined (take n rs);
    back = joined (drop (suc n) rs);
    is_front = refl;
    is = joined_cut n rs l;
    set = λ new. joined_set n rs new l;
    before = front_before k rs n w e l;
    behind = back_behind k rs n w e l;
  }

  -- ---- a row made two

  joined_split : (m : ℕ) (rs : List (List (List ℕ × X))) (x y : List (List ℕ × X)) → m < length rs → joined (insert (slice_set rs m x) (suc m) y) ≡ joined (take m rs) ++ ((x ++ y) ++ joined (drop (suc m) rs))
  joined_split m [] x y h = absurd (omega arith)
  joined_split zero (r ∷ rs) x y h = sym (append_assoc x y (joined rs))
  joined_split (suc m) (r ∷ rs) x y h = ap (λ t. r ++ t) (joined_split m rs x y (omega arith)) ∙ sym (append_assoc r (joined (take m rs)) ((x ++ y) ++ joined (drop (suc m) rs)))

  sized_split : (m : ℕ) (rs : List (List (List ℕ × X))) (x y : List (List ℕ × X)) → 0 < length x → length x ≤ 128 → 0 < length y → length y ≤ 128 → AreSized rs → AreSized (insert (slice_set rs m x) (suc m) y)
  sized_split m rs x y p q s t f = sized_insert (suc m) (slice_set rs m x) y s t (sized_set m rs x p q f)

  front_split : (m : ℕ) (rs : List (List (List ℕ × X))) (x y : List (List ℕ × X)) → m < length rs → joined (take (suc m) (insert (slice_set rs m x) (suc m) y)) ≡ joined (take m rs) ++ x
  front_split m [] x y h = absurd (omega arith)
  front_split zero (r ∷ rs) x y h = append-nil x
  front_split (suc m) (r ∷ rs) x y h = ap (λ t. r ++ t) (front_split m rs x y (omega arith)) ∙ sym (append_assoc r (joined (take m rs)) x)

  back_split : (m : ℕ) (rs : List (List (List ℕ × X))) (x y : List (List ℕ × X)) → m < length rs → joined (drop (suc m) (insert (slice_set rs m x) (suc m) y)) ≡ y ++ joined (drop (suc m) rs)
  back_split m [] x y h = absurd (omega arith)
  back_split zero (r ∷ rs) x y h = refl
  back_split (suc m) (r ∷ rs) x y h = back_split m rs x y (omega arith)

  -- the row with number n was cut at a place, and what came out of it was put behind it
  module _ (rs ss ts : List (List (List ℕ × X))) (n at : ℕ) (back : List (List ℕ × X)) (l : n < length rs) (s : ss ≡ slice_set rs n (take at (get_or rs n []))) (b : back ≡ drop at (get_or rs n [])) (t : ts ≡ insert ss (n + 1) back) where
    split_is : ts ≡ insert (slice_set rs n (take at (get_or rs n []))) (suc n) (drop at (get_or rs n []))
    split_is =
        let one : n + 1 ≡ suc n = omega arith in
        t ∙ ap (λ j. insert ss j back) one ∙ ap (λ (q : List (List (List ℕ × X))). insert q (suc n) back) s ∙ ap (λ (q : List (List ℕ × X)). insert (slice_set rs n (take at (get_or rs n []))) (suc n) q) b

    pub split_same : joined ts ≡ joined rs
    split_same =
        ap (λ (q : List (List (List ℕ × X))). joined q) split_is
        ∙ joined_split n rs (take at (get_or rs n [])) (drop at (get_or rs n [])) l
        ∙ ap (λ (q : List (List ℕ × X)). joined (take n rs) ++ (q ++ joined (drop (suc n) rs))) (take-append-drop at (get_or rs n []))
        ∙ sym (joined_cut n rs l)

    pub split_rows : 0 < at → at < length (get_or rs n []) → AreRows rs → AreRows ts
    split_rows p q w =
        let size = sized_at rs n w.sized l in
        record {
          rises = subst (λ (x : List (List ℕ × X)). Rises x) (sym split_same) w.rises;
          sized = subst (λ (x : List (List (List ℕ × X))). AreSized x) (sym split_is)
              (sized_split n rs (take at (get_or rs n [])) (drop at (get_or rs n []))
              (omega (arith, p, q, length-take at (get_or rs n []))) (omega (arith, size.1, q, length-take at (get_or rs n [])))
              (omega (arith, q, length-drop at (get_or rs n []))) (omega (arith, size.1, length-drop at (get_or rs n []))) w.sized);
        }

    pub split_front : joined (take (n + 1) ts) ≡ joined (take n rs) ++ take at (get_or rs n [])
    split_front =
        let one : n + 1 ≡ suc n = omega arith in
        ap (λ m. joined (take m ts)) one ∙ ap (λ (x : List (List (List ℕ × X))). joined (take (suc n) x)) split_is ∙ front_split n rs (take at (get_or rs n [])) (drop at (get_or rs n [])) l

    pub split_back : joined (drop (n + 1) ts) ≡ drop at (get_or rs n []) ++ joined (drop (n + 1) rs)
    split_back =
        let one : n + 1 ≡ suc n = omega arith in
        ap (λ m. joined (drop m ts)) one
        ∙ ap (λ (x : List (List (List ℕ × X))). joined (drop (suc n) x)) split_is
        ∙ back_split n rs (take at (get_or rs n [])) (drop at (get_or rs n [])) l
        ∙ ap (λ m. drop at (get_or rs n []) ++ joined (drop m rs)) (sym one)

  -- ---- the row that has entries on both sides of a key

  -- the place of a key in the row to which it belongs
  pub record IsPlace (k : List ℕ) (rs : List (List (List ℕ × X))) (n at : ℕ) : Type 0 where
    pub rows : AreRows rs
    pub number : n ≡ chunk_index k rs
    pub low : n < length rs
    pub spot : at ≡ place k (get_or rs n [])

  pub place_found : (k : List ℕ) (rs : List (List (List ℕ × X))) (n at : ℕ) (es : List (List ℕ × X)) → AreRows rs → n ≡ chunk_index k rs → IsRow rs n es → at ≡ place k es → IsPlace k rs n at
  place_found k rs n at es w e f p = record { rows = w; number = e; low = f.low; spot = p ∙ ap (λ (t : List (List ℕ × X)). place k t) f.own }

  module _ (k : List ℕ) (rs : List (List (List ℕ × X))) (n at : ℕ) (s : IsPlace k rs n at) where
    pub front_at : (fs : List (List ℕ × X)) → fs ≡ joined (take n rs) ++ take at (get_or rs n []) → AreBefore k fs
    front_at fs h =
        let here : AllBefore k (take at (get_or rs n [])) = subst (λ m. AllBefore k (take m (get_or rs n []))) (sym s.spot) (taken_before k (get_or rs n [])) in
        subst (λ (t : List (List ℕ × X)). AreBefore k t) (sym h) (are_before k _ (all_append (λ y. by_bytes k y ≡ Greater) (joined (take n rs)) (take at (get_or rs n [])) (front_before k rs n s.rows s.number s.low) here))

    pub back_at : (fs : List (List ℕ × X)) → fs ≡ drop at (get_or rs n []) ++ joined (drop (n + 1) rs) → AreFrom k fs
    back_at fs h =
        let one : n + 1 ≡ suc n = omega arith in
        let here : AllFrom k (drop at (get_or rs n [])) = subst (λ m. AllFrom k (drop m (get_or rs n []))) (sym s.spot) (dropped_from k (get_or rs n []) (row_rises rs n s.rows s.low)) in
        let behind : AllBehind k (joined (drop (n + 1) rs)) = subst (λ m. AllBehind k (joined (drop m rs))) (sym one) (back_behind k rs n s.rows s.number s.low) in
        subst (λ (t : List (List ℕ × X)). AreFrom k t) (sym h)
        (are_from k _ (all_append (λ y. reaches k y ≡ true) (drop at (get_or rs n [])) (joined (drop (n + 1) rs)) here (weaker (λ y. by_bytes k y ≡ Less) (λ y. reaches k y ≡ true) _ (λ y g. ap is_le g) behind)))

    -- none of them stands before the key
    pub front_none : at ≡ 0 → AreBefore k (joined (take n rs))
    front_none z = front_at (joined (take n rs)) (sym (ap (λ m. joined (take n rs) ++ take m (get_or rs n [])) z ∙ append-nil (joined (take n rs))))

    pub back_none : at ≡ 0 → AreFrom k (joined (drop n rs))
    back_none z =
        back_at (joined (drop n rs))
        (ap (λ (t : List (List (List ℕ × X))). joined t) (drop_more rs n [] s.low)
        ∙ sym (ap (λ m. drop m (get_or rs n []) ++ joined (drop (n + 1) rs)) z))

    -- all of them do
    pub front_all : length (get_or rs n []) ≤ at → AreBefore k (joined (take (n + 1) rs))
    front_all z =
        front_at (joined (take (n + 1) rs))
        (ap (λ (t : List (List (List ℕ × X))). joined t) (take_more rs n [] s.low)
        ∙ joined_push (take n rs) (get_or rs n [])
        ∙ ap (λ (t : List (List ℕ × X)). joined (take n rs) ++ t) (sym (take_all at (get_or rs n []) z)))

    pub back_all : length (get_or rs n []) ≤ at → AreFrom k (joined (drop (n + 1) rs))
    back_all z = back_at (joined (drop (n + 1) rs)) (sym (ap (λ (t : List (List ℕ × X)). t ++ joined (drop (n + 1) rs)) (drop_all at (get_or rs n []) z)))

  -- ---- the rows up to a number, and those from it on

  pub joined_parts : (m : ℕ) (rs ss ts : List (List (List ℕ × X))) → ss ≡ take m rs → ts ≡ drop m rs → joined rs ≡ joined ss ++ joined ts
  joined_parts m rs ss ts s t =
      ap (λ (x : List (List (List ℕ × X))). joined x) (sym (take-append-drop m rs))
      ∙ joined-append (take m rs) (drop m rs)
      ∙ ap (λ (x : List (List (List ℕ × X))). joined x ++ joined (drop m rs)) (sym s)
      ∙ ap (λ (x : List (List (List ℕ × X))). joined ss ++ joined x) (sym t)

  pub rows_front : (m : ℕ) (rs ss : List (List (List ℕ × X))) → ss ≡ take m rs → AreRows rs → AreRows ss
  rows_front m rs ss s w = record {
    rises = rises_left (joined ss) (joined (drop m rs)) (subst (λ (t : List (List ℕ × X)). Rises t) (joined_parts m rs ss (drop m rs) s refl) w.rises);
    sized = subst (λ (t : List (List (List ℕ × X))). AreSized t) (sym s) (sized_take m rs w.sized);
  }

  pub rows_back : (m : ℕ) (rs ss : List (List (List ℕ × X))) → ss ≡ drop m rs → AreRows rs → AreRows ss
  rows_back m rs ss s w = record {
    rises = rises_right (joined (take m rs)) (joined ss) (subst (λ (t : List (List ℕ × X)). Rises t) (joined_parts m rs (take m rs) ss refl s) w.rises);
    sized = subst (λ (t : List (List (List ℕ × X))). AreSized t) (sym s) (sized_drop m rs w.sized);
  }

  pub rows_both : (rs ss ts : List (List (List ℕ × X))) → ts ≡ rs ++ ss → Rises (joined rs ++ joined ss) → AreSized rs → AreSized ss → AreRows ts
  rows_both rs ss ts t r f g = record {
    rises = subst (λ (x : List (List ℕ × X)). Rises x) (sym (ap (λ (x : List (List (List ℕ × X))). joined x) t ∙ joined-append rs ss)) r;
    sized = subst (λ (x : List (List (List ℕ × X))). AreSized x) (sym t) (sized-append rs ss f g);
  }
