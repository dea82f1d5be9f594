-- Where a key stands among entries that rise, and what is made of them there.
use Rattle.std.proofs.Common.{◌≡◌, ℕ, zero, suc, ◌<◌, ◌≤◌, true, false, List, [], ◌∷◌, ◌++◌, length, take, drop, get_or, refl, ap, sym, ◌∙◌, subst, Option, Some, None, cond, arith, Ordering}
use Rattle.std.specs.declared.cmp.Ordering.TheVariants.{Less, Equal, Greater}
use Rattle.std.specs.Ordering.{nat_cmp, is_gt, is_eq, match_ordering, ordering_reverse}
use Rattle.std.specs.List.{AllByRecursion, slice_get, slice_set, insert}
use Rattle.std.specs.List.Sorted.{IsStrictlySortedBy, IsPartitionPoint}
use Rattle.std.specs.Map.{keys_of, set_value}
use Rattle.std.specs.BTreeMap.{insert_entry, is_at}
use Rattle.std.specs.Option.{option_map}
use Rattle.std.specs.Prelude.{Bool, nat_lt, ◌≢◌}
use Rattle.std.proofs.lemmas.Bool.Decides.{nat_tests}
use Rattle.std.proofs.lemmas.List.{get_or_default, set_split}
use Rattle.std.proofs.lemmas.Map.Keys.{sorted_head, sorted_tail}
use Rattle.pathkey.specs.Heads.{IsHeaded}
use Rattle.pathkey.specs.Order.{by_bytes, by_bytes_total, same}
use Rattle.pathkey.proofs.HeadFacts.{order_of_heads}
use Rattle.pathkey.proofs.OrderFacts.{same_true}
use Rattle.cow_map.specs.Places.{Rises, BeginsHeaded, at_key, place, is_there, IsHolder, IsGap}
use Rattle.cow_map.specs.CowMap.{first_key}

-- ---- heads

head_test : (h i : ℕ) → nat_lt i h ≡ is_gt (nat_cmp h i)
head_test h i = grind (arith, nat_tests)

-- of two keys whose heads differ the heads tell the order
pub before_by_heads : (h i : ℕ) (k x : List ℕ) → IsHeaded h k → IsHeaded i x → i ≢ h → nat_lt i h ≡ is_gt (by_bytes k x)
before_by_heads h i k x a b d =
    let order : nat_cmp h i ≡ by_bytes k x = rw (a.is_head, b.is_head) (order_of_heads 8 k x a.are_bytes b.are_bytes (λ e. d (b.is_head ∙ sym e ∙ sym a.is_head))) in
    head_test h i ∙ ap is_gt order

-- likewise by three outcomes
pub order_by_heads : (h i : ℕ) (k x : List ℕ) → IsHeaded h k → IsHeaded i x → i ≢ h → nat_cmp i h ≡ by_bytes x k
order_by_heads h i k x a b d = rw (a.is_head, b.is_head) (order_of_heads 8 x k b.are_bytes a.are_bytes (λ e. d (b.is_head ∙ e ∙ sym a.is_head)))

-- ---- the search

not_before : (o : Ordering) (n : ℕ) → is_gt o ≡ false → match_ordering o 0 0 n ≡ 0
not_before Less n h = refl
not_before Equal n h = refl
not_before Greater n h = (cc)

stands_before : (o : Ordering) (n : ℕ) → is_gt o ≡ true → match_ordering o 0 0 n ≡ n
stands_before Less n h = (cc)
stands_before Equal n h = (cc)
stands_before Greater n h = refl

-- what stands behind a key stands behind one before it
pub all_ahead : (k x : List ℕ) (ks : List (List ℕ)) → by_bytes k x ≡ Less → AllByRecursion (λ y. by_bytes x y ≡ Less) ks → AllByRecursion (λ y. by_bytes k y ≡ Less) ks
all_ahead k x [] l a = tt
all_ahead k x (y ∷ ks) l a = (by_bytes_total.trans k x y l a.0, all_ahead k x ks l a.1)

module _ {X : Type 0} where
  pub first_less : (x : List ℕ) (bs : List (List ℕ × X)) (j : ℕ) (d : List ℕ × X) → AllByRecursion (λ y. by_bytes x y ≡ Less) (keys_of bs) → j < length bs → by_bytes x (get_or bs j d).0 ≡ Less
  first_less x [] j d a h = absurd (omega arith)
  first_less x (b ∷ bs) zero d a h = a.0
  first_less x (b ∷ bs) (suc j) d a h = first_less x bs j d a.1 (omega arith)

  pub place_by_search : (k : List ℕ) (bs : List (List ℕ × X)) (i : ℕ) → i ≤ length bs → IsPartitionPoint (λ (b : List ℕ × X). is_gt (by_bytes k b.0) ≡ true) (λ (b : List ℕ × X). is_gt (by_bytes k b.0) ≡ false) bs i → i ≡ place k bs
  place_by_search k [] i b p = omega arith
  place_by_search k (x ∷ bs) zero b p = sym (not_before (by_bytes k x.0) (suc (place k bs)) (p.1 0 x (omega arith) (omega arith)))
  place_by_search k (x ∷ bs) (suc i) b p =
      let rest = place_by_search k bs i (omega arith) ((λ j d a h. p.0 (suc j) d (omega arith) (omega arith)), (λ j d a h. p.1 (suc j) d (omega arith) (omega arith))) in
      ap (λ n. suc n) rest ∙ sym (stands_before (by_bytes k x.0) (suc (place k bs)) (p.0 0 x (omega arith) (omega arith)))

  -- ---- whether the key is there

  -- whether the key is that of the entry
  abbrev pub has_key : List ℕ → Option (List ℕ × X) → Bool
  has_key k None = false
  has_key k (Some b) = is_eq (by_bytes k b.0)

  pub there_is : (k : List ℕ) (bs : List (List ℕ × X)) → is_there k bs ≡ has_key k (slice_get bs (place k bs))
  there_is k [] = refl
  there_is k (b ∷ bs) =
      elim (by_bytes k b.0) as (λ o. by_bytes k b.0 ≡ o → match_ordering o false true (is_there k bs) ≡ has_key k (slice_get (b ∷ bs) (match_ordering o 0 0 (suc (place k bs))))) [
        | Less ↦ λ p. sym (ap is_eq p)
        | Equal ↦ λ p. sym (ap is_eq p)
        | Greater ↦ λ p. there_is k bs
      ] refl

  -- at the number that a search gave
  pub there_at : (k : List ℕ) (bs : List (List ℕ × X)) (i : ℕ) → i ≡ place k bs → is_there k bs ≡ has_key k (slice_get bs i)
  there_at k bs i e = there_is k bs ∙ sym (ap (λ n. has_key k (slice_get bs n)) e)

  -- an entry that is there has a number
  pub place_bound : (k : List ℕ) (es : List (List ℕ × X)) → place k es ≤ length es
  place_bound k [] = omega arith
  place_bound k (e ∷ es) =
      elim (by_bytes k e.0) as (λ o. match_ordering o 0 0 (suc (place k es)) ≤ length (e ∷ es)) [
        | Less ↦ omega arith
        | Equal ↦ omega arith
        | Greater ↦ omega (arith, place_bound k es)
      ]

  -- ---- a new entry

  pub put_is : (p : List ℕ × X) (es : List (List ℕ × X)) → is_there p.0 es ≡ false → insert es (place p.0 es) p ≡ insert_entry by_bytes es p.0 p.1
  put_is p [] n = refl
  put_is p (x ∷ es) n =
      elim (by_bytes p.0 x.0) as (λ o. match_ordering o false true (is_there p.0 es) ≡ false → insert (x ∷ es) (match_ordering o 0 0 (suc (place p.0 es))) p ≡ match_ordering o (p ∷ x ∷ es) ((x.0, p.1) ∷ es) (x ∷ insert_entry by_bytes es p.0 p.1)) [
        | Less ↦ λ m. refl
        | Equal ↦ λ m. absurd (cc)
        | Greater ↦ λ m. ap (λ t. x ∷ t) (put_is p es m)
      ] n

  -- a key below all others stands below those of the new list
  all_put : (P : List ℕ → Type 0) (k : List ℕ) (v : X) (es : List (List ℕ × X)) → P k → AllByRecursion P (keys_of es) → AllByRecursion P (keys_of (insert_entry by_bytes es k v))
  all_put P k v [] p a = (p, tt)
  all_put P k v (e ∷ es) p a =
      elim (by_bytes k e.0) as (λ o. AllByRecursion P (keys_of (match_ordering o ((k, v) ∷ e ∷ es) ((e.0, v) ∷ es) (e ∷ insert_entry by_bytes es k v)))) [
        | Less ↦ (p, a)
        | Equal ↦ a
        | Greater ↦ (a.0, all_put P k v es p a.1)
      ]

  pub rises_cons : (k : List ℕ) (v : X) (es : List (List ℕ × X)) → AllByRecursion (λ y. by_bytes k y ≡ Less) (keys_of es) → Rises es → Rises ((k, v) ∷ es)
  unfolding IsStrictlySortedBy
  rises_cons k v es a r = (a, r)

  pub rises_put : (k : List ℕ) (v : X) (es : List (List ℕ × X)) → Rises es → Rises (insert_entry by_bytes es k v)
  rises_put k v [] r = rises_cons k v [] tt r
  rises_put k v (e ∷ es) r =
      let a = sorted_head by_bytes e.0 (keys_of es) r in
      let s = sorted_tail by_bytes e.0 (keys_of es) r in
      elim (by_bytes k e.0) as (λ o. by_bytes k e.0 ≡ o → Rises (match_ordering o ((k, v) ∷ e ∷ es) ((e.0, v) ∷ es) (e ∷ insert_entry by_bytes es k v))) [
        | Less ↦ λ p. rises_cons k v (e ∷ es) (p, all_ahead k e.0 (keys_of es) p a) r
        | Equal ↦ λ p. rises_cons e.0 v es a s
        | Greater ↦ λ p. rises_cons e.0 e.1 (insert_entry by_bytes es k v) (all_put (λ y. by_bytes e.0 y ≡ Less) k v es (by_bytes_total.antisymm e.0 k ∙ ap ordering_reverse p) a) (rises_put k v es s)
      ] refl

  -- ---- another value

  pub swap_is : (k : List ℕ) (w : X) (es : List (List ℕ × X)) (e : List ℕ × X) → is_there k es ≡ true → slice_get es (place k es) ≡ Some e → take (place k es) es ++ (e.0, w) ∷ drop (suc (place k es)) es ≡ set_value (is_at (by_bytes k)) es w
  swap_is k w [] e t g = absurd (cc)
  swap_is k w (x ∷ es) e t g =
      elim (by_bytes k x.0) as (λ o. match_ordering o false true (is_there k es) ≡ true → slice_get (x ∷ es) (match_ordering o 0 0 (suc (place k es))) ≡ Some e → take (match_ordering o 0 0 (suc (place k es))) (x ∷ es) ++ (e.0, w) ∷ drop (suc (match_ordering o 0 0 (suc (place k es)))) (x ∷ es) ≡ cond (is_eq o) ((x.0, w) ∷ es) (x ∷ set_value (is_at (by_bytes k)) es w)) [
        | Less ↦ λ s h. absurd (cc)
        | Equal ↦ λ s h. (let is : x ≡ e = (cc) in ap (λ (y : List ℕ × X). (y.0, w) ∷ es) (sym is))
        | Greater ↦ λ s h. ap (λ t. x ∷ t) (swap_is k w es e s h)
      ] t g

  pub at_place : (k : List ℕ) (es : List (List ℕ × X)) → is_there k es ≡ true → at_key k es ≡ option_map (λ (e : List ℕ × X). e.1) (slice_get es (place k es))
  at_place k [] t = absurd (cc)
  at_place k (x ∷ es) t =
      elim (by_bytes k x.0) as (λ o. match_ordering o false true (is_there k es) ≡ true → cond (is_eq o) (Some x.1) (at_key k es) ≡ option_map (λ (e : List ℕ × X). e.1) (slice_get (x ∷ es) (match_ordering o 0 0 (suc (place k es))))) [
        | Less ↦ λ s. absurd (cc)
        | Equal ↦ λ s. refl
        | Greater ↦ λ s. at_place k es s
      ] t

  pub none_ahead : (k : List ℕ) (es : List (List ℕ × X)) → AllByRecursion (λ y. by_bytes k y ≡ Less) (keys_of es) → at_key k es ≡ None
  none_ahead k [] a = refl
  none_ahead k (x ∷ es) a = ap (λ o. cond (is_eq o) (Some x.1) (at_key k es)) a.0 ∙ none_ahead k es a.1

  -- where the key is not there nothing stands at it
  pub none_at : (k : List ℕ) (es : List (List ℕ × X)) → Rises es → is_there k es ≡ false → at_key k es ≡ None
  none_at k [] r t = refl
  none_at k (x ∷ es) r t =
      elim (by_bytes k x.0) as (λ o. by_bytes k x.0 ≡ o → match_ordering o false true (is_there k es) ≡ false → cond (is_eq o) (Some x.1) (at_key k es) ≡ None) [
        | Less ↦ λ p s. none_ahead k es (all_ahead k x.0 (keys_of es) p (sorted_head by_bytes x.0 (keys_of es) r))
        | Equal ↦ λ p s. absurd (cc)
        | Greater ↦ λ p s. none_at k es (sorted_tail by_bytes x.0 (keys_of es) r) s
      ] refl t

  -- where it is there, a new value is all that an insertion changes
  pub put-set : (k : List ℕ) (w : X) (es : List (List ℕ × X)) → is_there k es ≡ true → insert_entry by_bytes es k w ≡ set_value (is_at (by_bytes k)) es w
  put-set k w [] t = absurd (cc)
  put-set k w (x ∷ es) t =
      elim (by_bytes k x.0) as (λ o. match_ordering o false true (is_there k es) ≡ true → match_ordering o ((k, w) ∷ x ∷ es) ((x.0, w) ∷ es) (x ∷ insert_entry by_bytes es k w) ≡ cond (is_eq o) ((x.0, w) ∷ es) (x ∷ set_value (is_at (by_bytes k)) es w)) [
        | Less ↦ λ s. absurd (cc)
        | Equal ↦ λ s. refl
        | Greater ↦ λ s. ap (λ t. x ∷ t) (put-set k w es s)
      ] t

  -- ---- entries by number

  pub get_some : (es : List (List ℕ × X)) (i : ℕ) (e : List ℕ × X) → i < length es → e ≡ get_or es i e → slice_get es i ≡ Some e
  get_some [] i e l a = absurd (omega arith)
  get_some (x ∷ es) zero e l a = ap (λ y. Some y) (sym a)
  get_some (x ∷ es) (suc i) e l a = get_some es i e (omega arith) a

  pub get_none : (es : List (List ℕ × X)) (i : ℕ) → length es ≤ i → slice_get es i ≡ None
  get_none [] i l = refl
  get_none (x ∷ es) zero l = absurd (omega arith)
  get_none (x ∷ es) (suc i) l = get_none es i (omega arith)

  pub found_holder : (k : List ℕ) (es : List (List ℕ × X)) (i : ℕ) (e : List ℕ × X) → i ≡ place k es → i < length es → e ≡ get_or es i e → same k e.0 ≡ true → IsHolder k es i
  found_holder k es i e n l a s = record {
    number = n;
    there = there_at k es i n ∙ ap (has_key k) (get_some es i e l a) ∙ s;
    bound = l;
  }

  pub found_gap : (k : List ℕ) (es : List (List ℕ × X)) (i : ℕ) (e : List ℕ × X) → i ≡ place k es → i < length es → e ≡ get_or es i e → same k e.0 ≡ false → IsGap k es i
  found_gap k es i e n l a s = record {
    number = n;
    absent = there_at k es i n ∙ ap (has_key k) (get_some es i e l a) ∙ s;
    bound = omega (arith, l);
  }

  pub found_end : (k : List ℕ) (es : List (List ℕ × X)) (i : ℕ) → i ≡ place k es → i ≤ length es → length es ≤ i → IsGap k es i
  found_end k es i n b l = record {
    number = n;
    absent = there_at k es i n ∙ ap (has_key k) (get_none es i l);
    bound = b;
  }

  -- ---- what is done where a search found the key, or its place

  module _ (k : List ℕ) (es : List (List ℕ × X)) (i : ℕ) (old : List ℕ × X) (h : IsHolder k es i) (a : old ≡ get_or es i old) where
    held : slice_get es (place k es) ≡ Some old
    held = ap (λ n. slice_get es n) (sym h.number) ∙ get_some es i old h.bound a

    pub held_value : at_key k es ≡ Some old.1
    held_value = at_place k es h.there ∙ ap (option_map (λ (x : List ℕ × X). x.1)) held

    pub replaced : (w : X) → slice_set es i (old.0, w) ≡ insert_entry by_bytes es k w
    replaced w =
        set_split es i (old.0, w) h.bound
        ∙ ap (λ m. take m es ++ (old.0, w) ∷ drop (suc m) es) h.number
        ∙ swap_is k w es old h.there held
        ∙ sym (put-set k w es h.there)

    -- the entry that is there has the key
    key_held : k ≡ old.0
    key_held = same_true k old.0 (sym (ap (has_key k) held) ∙ sym (there_is k es) ∙ h.there)

    pub item_replaced : (w : X) → slice_set es i (k, w) ≡ insert_entry by_bytes es k w
    item_replaced w = ap (λ q. slice_set es i (q, w)) key_held ∙ replaced w

  pub rises_none : (es : List (List ℕ × X)) → es ≡ [] → Rises es
  unfolding IsStrictlySortedBy
  rises_none es e = subst (λ (t : List (List ℕ × X)). Rises t) (sym e) tt

  -- an entry that comes back to its place
  pub set_back : (es : List (List ℕ × X)) (i : ℕ) (new old : List ℕ × X) → i < length es → old ≡ get_or es i old → slice_set (slice_set es i new) i old ≡ es
  set_back [] i new old l a = absurd (omega arith)
  set_back (x ∷ es) zero new old l a = ap (λ y. y ∷ es) a
  set_back (x ∷ es) (suc i) new old l a = ap (λ t. x ∷ t) (set_back es i new old (omega arith) a)

  pub set_same : (es : List (List ℕ × X)) (i : ℕ) (old : List ℕ × X) → i < length es → old ≡ get_or es i old → slice_set es i old ≡ es
  set_same [] i old l a = absurd (omega arith)
  set_same (x ∷ es) zero old l a = ap (λ y. y ∷ es) a
  set_same (x ∷ es) (suc i) old l a = ap (λ t. x ∷ t) (set_same es i old (omega arith) a)

  -- the first entry, and those behind it
  pub first_parts : (es : List (List ℕ × X)) (e : List ℕ × X) → Some e ≡ slice_get es 0 → es ≡ e ∷ drop 1 es
  first_parts [] e h = absurd (cc)
  first_parts (x ∷ es) e h = (let is : e ≡ x = (cc) in ap (λ (y : List ℕ × X). y ∷ es) (sym is))

  -- the same, where the entry is read by another default
  pub value_held : (k : List ℕ) (es : List (List ℕ × X)) (i : ℕ) (d : List ℕ × X) → IsHolder k es i → Some (get_or es i d).1 ≡ at_key k es
  value_held k es i d h = sym (held_value k es i (get_or es i d) h (get_or_default es i d (get_or es i d) h.bound))

  pub put_done : (k : List ℕ) (w : X) (es : List (List ℕ × X)) (i : ℕ) → IsGap k es i → insert es i (k, w) ≡ insert_entry by_bytes es k w
  put_done k w es i h = ap (λ n. insert es n (k, w)) h.number ∙ put_is (k, w) es h.absent

  -- ---- the head beside a row

  pub headed_first : (h : ℕ) (es : List (List ℕ × X)) → 0 < length es → BeginsHeaded h es → IsHeaded h (first_key es)
  headed_first h [] l b = absurd (omega (arith, l))
  headed_first h (x ∷ es) l b = b
