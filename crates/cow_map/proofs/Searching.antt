-- What a search among ascending keys knows on its way: what stands before the key and behind it, and how the keys between begin.
use Rattle.std.proofs.Common.{◌≡◌, ℕ, zero, suc, ◌+◌, ◌<◌, ◌≤◌, true, false, List, [], ◌∷◌, ◌++◌, length, take, get_or, refl, ap, sym, ◌∙◌, subst, arith, ⊎_elim, Ordering}
use Rattle.std.specs.declared.cmp.Ordering.TheVariants.{Less, Equal, Greater}
use Rattle.std.specs.Ordering.{is_le, is_lt, is_gt, is_eq, nat_cmp, ord_min}
use Rattle.std.specs.List.{AllByRecursion, slice_get}
use Rattle.std.specs.Map.{keys_of}
use Rattle.std.proofs.lemmas.Bool.{cases_lt}
use Rattle.std.proofs.lemmas.Bool.Decides.{nat_tests}
use Rattle.std.proofs.lemmas.List.{get_or_default}
use Rattle.std.proofs.lemmas.Map.Keys.{sorted_head, sorted_tail}
use Rattle.pathkey.specs.Order.{by_bytes, by_bytes_total}
use Rattle.pathkey.proofs.OrderFacts.{equal, same_from_eq, tied}
use Rattle.pathkey.proofs.KeyOrder.{before_from, between_alike, first_bytes, greater_from, less_from_lt, lt_le, reaches-from_before}
use Rattle.cow_map.specs.Places.{Rises, place, IsHolder, IsGap}
use Rattle.cow_map.specs.CowMap.{joined, AreSized, AreRows, starts_at_or_before, first_key, row_number}
use Rattle.cow_map.specs.Searching.{IsLeft}
use Rattle.cow_map.proofs.Entries.{first_less, found_holder, has_key, place_by_search, there_at}
use Rattle.cow_map.proofs.Parts.{right_all, rises_right}
use Rattle.cow_map.proofs.TableFacts.{number_by_search}

-- a key behind another, said the other way round
turned : (a b : List ℕ) → by_bytes a b ≡ Greater → by_bytes b a ≡ Less
turned a b g = less_from_lt (by_bytes b a) (before_from a b g)

turned_back : (a b : List ℕ) → by_bytes a b ≡ Less → by_bytes b a ≡ Greater
turned_back a b l = greater_from b a (ap is_lt l)

-- the lesser of two numbers
pub least_left : (a b : ℕ) → ord_min nat_cmp a b ≤ a
least_left a b = grind (arith, nat_tests)

pub least_right : (a b : ℕ) → ord_min nat_cmp a b ≤ b
least_right a b = grind (arith, nat_tests)

module _ {Y : Type 0} (f : Y → List ℕ) (xs : List Y) where
  -- each key stands before the later ones
  abbrev pub Ascends : Type 0
  Ascends = (i j : ℕ) (c d : Y) → i < j → j < length xs → by_bytes (f (get_or xs i c)) (f (get_or xs j d)) ≡ Less

  pub all_left : (k : List ℕ) → IsLeft f xs k 0 (length xs) 0 0
  all_left k = record {
    order = omega arith;
    bound = omega arith;
    before = λ j d l. absurd (omega arith);
    behind = λ j d l b. absurd (omega arith);
    under = λ j d l b. refl;
    over = λ j d l. refl;
  }

  module _ (k : List ℕ) (low high below above at n : ℕ) (x : Y) (w : IsLeft f xs k low high below above) (l : low ≤ at) (h : at < high) (e : x ≡ get_or xs at x) where
    -- the key at a place that is left begins as k does
    pub alike : n ≤ below → n ≤ above → take n (f x) ≡ take n k
    alike b a =
        ap (λ (y : Y). take n (f y)) e
        ∙ between_alike n below above k (f (get_or xs at x)) b a (w.under at x l (omega (arith, w.bound))) (w.over at x h)

    here : (d : Y) → get_or xs at d ≡ x
    here d = get_or_default xs at d x (omega (arith, w.bound)) ∙ sym e

    -- it stands before k
    pub risen : Ascends → by_bytes (f x) k ≡ Less → take n (f x) ≡ take n k → IsLeft f xs k (at + 1) high n above
    risen s o t = record {
      order = omega arith;
      bound = w.bound;
      before = λ j d m. ⊎_elim
          (λ (g : j < at). by_bytes_total.trans (f (get_or xs j d)) (f x) k
          (subst (λ (y : Y). by_bytes (f (get_or xs j d)) (f y) ≡ Less) (here x) (s j at d x g (omega (arith, w.bound)))) o)
          (λ (g : at ≤ j). let same : at ≡ j = omega arith in subst (λ (i : ℕ). by_bytes (f (get_or xs i d)) k ≡ Less) same (ap (λ (y : Y). by_bytes (f y) k) (here d) ∙ o))
          (cases_lt j at);
      behind = w.behind;
      under = λ j d m b.
          let next : by_bytes (f x) (f (get_or xs j d)) ≡ Less = subst (λ (y : Y). by_bytes (f y) (f (get_or xs j d)) ≡ Less) (here x) (s at j x d (omega arith) b) in
          subst (λ (q : List ℕ). is_le (by_bytes q (take n (f (get_or xs j d)))) ≡ true) t (first_bytes n (f x) (f (get_or xs j d)) (ap is_le next));
      over = w.over;
    }

    -- it stands behind k
    pub fallen : Ascends → by_bytes (f x) k ≡ Greater → take n (f x) ≡ take n k → IsLeft f xs k low at below n
    fallen s o t = record {
      order = l;
      bound = omega (arith, w.bound);
      before = w.before;
      behind = λ j d m b. ⊎_elim
          (λ (g : at < j). turned_back k (f (get_or xs j d)) (by_bytes_total.trans k (f x) (f (get_or xs j d)) (turned (f x) k o)
          (subst (λ (y : Y). by_bytes (f y) (f (get_or xs j d)) ≡ Less) (here x) (s at j x d g b))))
          (λ (g : j ≤ at). let same : at ≡ j = omega arith in subst (λ (i : ℕ). by_bytes (f (get_or xs i d)) k ≡ Greater) same (ap (λ (y : Y). by_bytes (f y) k) (here d) ∙ o))
          (cases_lt at j);
      under = w.under;
      over = λ j d m.
          let next : by_bytes (f (get_or xs j d)) (f x) ≡ Less = subst (λ (y : Y). by_bytes (f (get_or xs j d)) (f y) ≡ Less) (here x) (s j at d x m (omega (arith, w.bound))) in
          subst (λ (q : List ℕ). is_le (by_bytes (take n (f (get_or xs j d))) q) ≡ true) t (first_bytes n (f (get_or xs j d)) (f x) (ap is_le next));
    }

-- ---- entries

module _ {X : Type 0} where
  pub entries_ascend : (es : List (List ℕ × X)) → Rises es → Ascends (λ (e : List ℕ × X). e.0) es
  entries_ascend [] r i j c d l b = absurd (omega arith)
  entries_ascend (x ∷ es) r i zero c d l b = absurd (omega arith)
  entries_ascend (x ∷ es) r zero (suc j) c d l b = first_less x.0 es j d (sorted_head by_bytes x.0 (keys_of es) r) (omega arith)
  entries_ascend (x ∷ es) r (suc i) (suc j) c d l b = entries_ascend es (sorted_tail by_bytes x.0 (keys_of es) r) i j c d (omega arith) (omega arith)

  none_there : (k : List ℕ) (es : List (List ℕ × X)) (i : ℕ) → ((d : List ℕ × X) → i < length es → by_bytes (get_or es i d).0 k ≡ Greater) → has_key k (slice_get es i) ≡ false
  none_there k [] i h = refl
  none_there k (x ∷ es) zero h = ap is_eq (turned x.0 k (h x (omega arith)))
  none_there k (x ∷ es) (suc i) h = none_there k es i (λ d l. h d (omega arith))

  -- no place is left
  pub gap_found : (k : List ℕ) (es : List (List ℕ × X)) (low high below above : ℕ) → IsLeft (λ (e : List ℕ × X). e.0) es k low high below above → high ≤ low → IsGap k es low
  gap_found k es low high below above w h =
      let bound : low ≤ length es = omega (arith, w.order, w.bound) in
      let number : low ≡ place k es = place_by_search k es low bound
      ((λ j d a b. ap is_gt (turned_back (get_or es j d).0 k (w.before j d b))), (λ j d a b. ap is_gt (turned (get_or es j d).0 k (w.behind j d (omega arith) b)))) in
      record {
        number = number;
        absent = there_at k es low number ∙ none_there k es low (λ d b. w.behind low d h b);
        bound = bound;
      }

  -- a place has the key
  pub holder_found : (k : List ℕ) (es : List (List ℕ × X)) (at : ℕ) (x : List ℕ × X) → Rises es → at < length es → x ≡ get_or es at x → by_bytes x.0 k ≡ Equal → IsHolder k es at
  holder_found k es at x r b e o =
      let is : x.0 ≡ k = equal x.0 k o in
      let s = entries_ascend es r in
      let here : (d : List ℕ × X) → (get_or es at d).0 ≡ k = λ d. ap (λ (y : List ℕ × X). y.0) (get_or_default es at d x b ∙ sym e) ∙ is in
      let number : at ≡ place k es = place_by_search k es at (omega arith) (
        (λ j d l m. ap is_gt (turned_back (get_or es j d).0 k (subst (λ (q : List ℕ). by_bytes (get_or es j d).0 q ≡ Less) (here x) (s j at d x m b)))),
        (λ j d l m. ⊎_elim
            (λ (g : at < j). ap is_gt (subst (λ (q : List ℕ). by_bytes q (get_or es j d).0 ≡ Less) (here x) (s at j x d g m)))
            (λ (g : j ≤ at). let same : at ≡ j = omega arith in ap (λ (q : List ℕ). is_gt (by_bytes k q)) (subst (λ (i : ℕ). (get_or es i d).0 ≡ k) same (here d)) ∙ ap is_gt (tied k))
            (cases_lt at j)),
      ) in
      found_holder k es at x number b e (same_from_eq k x.0 (sym is))

-- ---- rows

not_le : (o : Ordering) → is_le o ≡ false → o ≡ Greater
not_le Less h = absurd (cc)
not_le Equal h = absurd (cc)
not_le Greater h = refl

module _ {X : Type 0} where
  first_behind : (x : List ℕ) (rs : List (List (List ℕ × X))) (j : ℕ) (d : List (List ℕ × X)) → AllByRecursion (λ y. by_bytes x y ≡ Less) (keys_of (joined rs)) → AreSized rs → j < length rs → by_bytes x (first_key (get_or rs j d)) ≡ Less
  first_behind x [] j d a f b = absurd (omega arith)
  first_behind x ([] ∷ rs) zero d a f b = absurd (let none = f.0 in omega arith)
  first_behind x ((y ∷ ys) ∷ rs) zero d a f b = a.0
  first_behind x (r ∷ rs) (suc j) d a f b = first_behind x rs j d (right_all (λ y. by_bytes x y ≡ Less) r (joined rs) a) f.2 (omega arith)

  rising_rows : (rs : List (List (List ℕ × X))) → Rises (joined rs) → AreSized rs → Ascends first_key rs
  rising_rows [] r f i j c d l b = absurd (omega arith)
  rising_rows (x ∷ rs) r f i zero c d l b = absurd (omega arith)
  rising_rows ([] ∷ rs) r f zero (suc j) c d l b = absurd (let none = f.0 in omega arith)
  rising_rows ((y ∷ ys) ∷ rs) r f zero (suc j) c d l b =
      first_behind y.0 rs j d (right_all (λ z. by_bytes y.0 z ≡ Less) ys (joined rs) (sorted_head by_bytes y.0 (keys_of (ys ++ joined rs)) r)) f.2 (omega arith)
  rising_rows (x ∷ rs) r f (suc i) (suc j) c d l b = rising_rows rs (rises_right x (joined rs) r) f.2 i j c d (omega arith) (omega arith)

  pub rows_ascend : (rs : List (List (List ℕ × X))) → AreRows rs → Ascends first_key rs
  rows_ascend rs w = rising_rows rs w.rises w.sized

  pub row_some : (rs : List (List (List ℕ × X))) (j : ℕ) (d : List (List ℕ × X)) → AreSized rs → j < length rs → 0 < length (get_or rs j d)
  row_some [] j d f b = absurd (omega arith)
  row_some (r ∷ rs) zero d f b = f.0
  row_some (r ∷ rs) (suc j) d f b = row_some rs j d f.2 (omega arith)

  begins_first : (k : List ℕ) (r : List (List ℕ × X)) → 0 < length r → starts_at_or_before k r ≡ is_le (by_bytes (first_key r) k)
  begins_first k [] l = absurd (omega arith)
  begins_first k (e ∷ es) l = refl

  -- no place is left
  pub number_found : (k : List ℕ) (rs : List (List (List ℕ × X))) (low high below above : ℕ) → AreRows rs → IsLeft first_key rs k low high below above → high ≤ low → low ≡ row_number k rs
  number_found k rs low high below above v w h =
      number_by_search k rs low (omega (arith, w.order, w.bound)) (
        (λ j d a b. begins_first k (get_or rs j d) (row_some rs j d v.sized (omega (arith, w.order, w.bound))) ∙ ap is_le (w.before j d b)),
        (λ j d a b. begins_first k (get_or rs j d) (row_some rs j d v.sized b) ∙ ap is_le (w.behind j d (omega arith) b)),
      )

  -- a row begins with the key
  pub number_here : (k : List ℕ) (rs : List (List (List ℕ × X))) (at : ℕ) (r : List (List ℕ × X)) → AreRows rs → at < length rs → r ≡ get_or rs at r → by_bytes (first_key r) k ≡ Equal → at + 1 ≡ row_number k rs
  number_here k rs at r v b e o =
      let is : first_key r ≡ k = equal (first_key r) k o in
      let s = rows_ascend rs v in
      let here : (d : List (List ℕ × X)) → first_key (get_or rs at d) ≡ k = λ d. ap first_key (get_or_default rs at d r b ∙ sym e) ∙ is in
      number_by_search k rs (at + 1) (omega arith) (
        (λ j d l m. begins_first k (get_or rs j d) (row_some rs j d v.sized (omega arith)) ∙ ⊎_elim
            (λ (g : j < at). ap is_le (subst (λ (q : List ℕ). by_bytes (first_key (get_or rs j d)) q ≡ Less) (here r) (s j at d r g b)))
            (λ (g : at ≤ j). let same : at ≡ j = omega arith in ap (λ (q : List ℕ). is_le (by_bytes q k)) (subst (λ (i : ℕ). first_key (get_or rs i d) ≡ k) same (here d)) ∙ ap is_le (tied k))
            (cases_lt j at)),
        (λ j d l m. begins_first k (get_or rs j d) (row_some rs j d v.sized m) ∙ ap is_le (turned_back k (first_key (get_or rs j d)) (subst (λ (q : List ℕ). by_bytes q (first_key (get_or rs j d)) ≡ Less) (here r) (s at j r d (omega arith) m)))),
      )

  -- the last row begins at the key or before it
  pub number_last : (k : List ℕ) (rs : List (List (List ℕ × X))) (at : ℕ) (r : List (List ℕ × X)) → AreRows rs → length rs ≡ at + 1 → r ≡ get_or rs at r → is_le (by_bytes (first_key r) k) ≡ true → length rs ≡ row_number k rs
  number_last k rs at r v n e t =
      let s = rows_ascend rs v in
      let here : (d : List (List ℕ × X)) → get_or rs at d ≡ r = λ d. get_or_default rs at d r (omega (arith, n)) ∙ sym e in
      number_by_search k rs (length rs) (omega arith) (
        (λ j d l m. begins_first k (get_or rs j d) (row_some rs j d v.sized m) ∙ ⊎_elim
            (λ (g : j < at). reaches-from_before (first_key (get_or rs j d)) k (lt_le (first_key (get_or rs j d)) (first_key r) k (ap is_lt (subst (λ (q : List (List ℕ × X)). by_bytes (first_key (get_or rs j d)) (first_key q) ≡ Less) (here r) (s j at d r g (omega (arith, n))))) t))
            (λ (g : at ≤ j). let same : at ≡ j = omega (arith, m, n) in subst (λ (i : ℕ). is_le (by_bytes (first_key (get_or rs i d)) k) ≡ true) same (ap (λ (q : List (List ℕ × X)). is_le (by_bytes (first_key q) k)) (here d) ∙ t))
            (cases_lt j at)),
        (λ j d l m. absurd (omega arith)),
      )

  -- it begins behind the key
  pub last_left : (k : List ℕ) (rs : List (List (List ℕ × X))) (at n : ℕ) (r : List (List ℕ × X)) → AreRows rs → length rs ≡ at + 1 → r ≡ get_or rs at r → is_le (by_bytes (first_key r) k) ≡ false → take n (first_key r) ≡ take n k → IsLeft first_key rs k 0 at 0 n
  last_left k rs at n r v m e t s = fallen first_key rs k 0 (length rs) 0 0 at n r (all_left first_key rs k) (omega arith) (omega (arith, m)) e (rows_ascend rs v) (not_le (by_bytes (first_key r) k) t) s
