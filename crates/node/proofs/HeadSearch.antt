-- A search by heads: the keys with lesser heads are those before a key by its first eight bytes, padded with zeros.
use Rattle.std.proofs.Common.{◌≡◌, ◌≢◌, ℕ, zero, suc, ◌+◌, ◌-◌, ◌*◌, ◌^◌, ◌<◌, ◌≤◌, Bool, true, false, List, [], ◌∷◌, length, get_or, drop, refl, ap, sym, ◌∙◌, subst, arith, Ordering, ⊎_elim}
use Rattle.std.specs.Ordering.{nat_cmp, is_lt, is_le, ordering_then}
use Rattle.std.specs.List.{AllWithin}
use Rattle.std.specs.List.Sorted.{IsPartitionedBy, IsPartitionPoint}
use Rattle.std.specs.declared.cmp.Ordering.TheVariants.{Greater}
use Rattle.std.proofs.Math.Dec.{ltb}
use Rattle.std.proofs.lemmas.Bool.{cases_lt, cases_order, false_from_ne_true}
use Rattle.std.proofs.lemmas.Bool.Decides.{nat_tests}
use Rattle.std.proofs.lemmas.Map.Keys.{ge_from_not_lt}
use Rattle.std.proofs.lemmas.List.{get_or-drop, get_or_default, length-drop}
use Rattle.std.proofs.lemmas.Nat.{mul-add-lt}
use Rattle.std.proofs.Math.Nat.{mul_comm}
use Rattle.pathkey.specs.Heads.{AreBytes, IsHeaded, head, head_of}
use Rattle.pathkey.specs.Order.{by_bytes}
use Rattle.pathkey.proofs.OrderFacts.{tied, cmp_less, cmp_equal, cmp_greater}
use Rattle.pathkey.proofs.HeadFacts.{head_below, one_first, order_of_heads}
use Rattle.pathkey.proofs.KeyOrder.{from_start, reaches-refl, reaches-from_not_before, not_before_from_reaches, le_lt}
use Rattle.message.specs.Ranges.{before, reaches}
use Rattle.node.specs.HeadCount.{AreBefore, IsHeadCount}

-- the first n bytes, with zeros where the list is shorter
abbrev padded : ℕ → List ℕ → List ℕ
padded zero a = []
padded (suc n) [] = 0 ∷ padded n []
padded (suc n) (x ∷ a) = x ∷ padded n a

-- ---- padded bytes in order

-- a first byte and what follows
led : (x y : ℕ) (p q a b : List ℕ) → (is_le (by_bytes a b) ≡ true → is_le (by_bytes p q) ≡ true) → is_le (by_bytes (x ∷ a) (y ∷ b)) ≡ true → is_le (by_bytes (x ∷ p) (y ∷ q)) ≡ true
led x y p q a b rest h =
    ⊎_elim (λ (e : x ≡ y). ap is_le (one_first x y p q e) ∙ rest (sym (ap is_le (one_first x y a b e)) ∙ h))
    (⊎_elim
    (λ (l : x < y). ap (λ (o : Ordering). is_le (ordering_then o (by_bytes p q))) (cmp_less x y l))
    (λ (l : y < x). absurd (let no : is_le (ordering_then Greater (by_bytes a b)) ≡ true = subst (λ (o : Ordering). is_le (ordering_then o (by_bytes a b)) ≡ true) (cmp_greater x y l) h in cc)))
    (cases_order x y)

zero_first : (y : ℕ) (p q : List ℕ) → is_le (by_bytes p q) ≡ true → is_le (by_bytes (0 ∷ p) (y ∷ q)) ≡ true
zero_first zero p q h = ap is_le (one_first 0 0 p q refl) ∙ h
zero_first (suc y) p q h = ap (λ (o : Ordering). is_le (ordering_then o (by_bytes p q))) (cmp_less 0 (suc y) (omega arith))

-- they stand in the keys' order
padded_rise : (n : ℕ) (a b : List ℕ) → is_le (by_bytes a b) ≡ true → is_le (by_bytes (padded n a) (padded n b)) ≡ true
padded_rise zero a b h = refl
padded_rise (suc n) [] [] h = reaches-refl (padded (suc n) [])
padded_rise (suc n) [] (y ∷ b) h = zero_first y (padded n []) (padded n b) (padded_rise n [] b (from_start b))
padded_rise (suc n) (x ∷ a) [] h = absurd (cc)
padded_rise (suc n) (x ∷ a) (y ∷ b) h = led x y (padded n a) (padded n b) a b (padded_rise n a b) h

-- so where they stand before others, so do the keys
before_from_padded : (n : ℕ) (a b : List ℕ) → is_lt (by_bytes (padded n a) (padded n b)) ≡ true → is_lt (by_bytes a b) ≡ true
before_from_padded n a b h = elim (is_lt (by_bytes a b)) as (λ t. is_lt (by_bytes a b) ≡ t → t ≡ true) [
  | true ↦ λ e. refl
  | false ↦ λ e.
      let no : is_lt (by_bytes (padded n a) (padded n b)) ≡ false = not_before_from_reaches (padded n b) (padded n a) (padded_rise n b a (reaches-from_not_before a b e)) in
      sym no ∙ h
] refl

-- ---- their order is that of the heads

shifted : (m h k : ℕ) → nat_cmp h k ≡ nat_cmp (m + h) (m + k)
shifted m h k = grind (arith, nat_tests)

-- of two numbers with a first digit each
digits : (x y h k p : ℕ) (o : Ordering) → h < p → k < p → o ≡ nat_cmp h k → ordering_then (nat_cmp x y) o ≡ nat_cmp (x * p + h) (y * p + k)
digits x y h k p o f g e =
    ⊎_elim (λ (s : x ≡ y). ap (λ (r : Ordering). ordering_then r o) (ap (λ (z : ℕ). nat_cmp x z) (sym s) ∙ cmp_equal x) ∙ e ∙ shifted (x * p) h k ∙ ap (λ (z : ℕ). nat_cmp (x * p + h) (z * p + k)) s)
    (⊎_elim
    (λ (l : x < y). ap (λ (r : Ordering). ordering_then r o) (cmp_less x y l) ∙ sym (cmp_less (x * p + h) (y * p + k) (omega (arith, mul-add-lt x p h y l f, mul_comm p y))))
    (λ (l : y < x). ap (λ (r : Ordering). ordering_then r o) (cmp_greater x y l) ∙ sym (cmp_greater (x * p + h) (y * p + k) (omega (arith, mul-add-lt y p k x l g, mul_comm p x)))))
    (cases_order x y)

none_head : (n p : ℕ) → 0 * p + head n [] ≡ 0
none_head zero p = omega arith
none_head (suc n) p = omega arith

padded_cmp : (n : ℕ) (a b : List ℕ) → AreBytes a → AreBytes b → by_bytes (padded n a) (padded n b) ≡ nat_cmp (head n a) (head n b)
padded_cmp zero a b u v = sym (cmp_equal 0)
padded_cmp (suc n) [] [] u v = tied (padded (suc n) []) ∙ sym (cmp_equal 0)
padded_cmp (suc n) [] (y ∷ b) u v =
    digits 0 y (head n []) (head n b) (256 ^ n) (by_bytes (padded n []) (padded n b)) (head_below n [] u) (head_below n b v.1) (padded_cmp n [] b u v.1)
    ∙ ap (λ (z : ℕ). nat_cmp z (y * 256 ^ n + head n b)) (none_head n (256 ^ n))
padded_cmp (suc n) (x ∷ a) [] u v =
    digits x 0 (head n a) (head n []) (256 ^ n) (by_bytes (padded n a) (padded n [])) (head_below n a u.1) (head_below n [] v) (padded_cmp n a [] u.1 v)
    ∙ ap (λ (z : ℕ). nat_cmp (x * 256 ^ n + head n a) z) (none_head n (256 ^ n))
padded_cmp (suc n) (x ∷ a) (y ∷ b) u v = digits x y (head n a) (head n b) (256 ^ n) (by_bytes (padded n a) (padded n b)) (head_below n a u.1) (head_below n b v.1) (padded_cmp n a b u.1 v.1)

-- ---- a search

-- what a search by heads tests: a's head is less than k's
pub heads_before : List ℕ → List ℕ → Bool
heads_before a k = is_lt (by_bytes (padded 8 a) (padded 8 k))

less_is : (x y : ℕ) → ltb x y ≡ is_lt (nat_cmp x y)
less_is x y = grind (arith, nat_tests)

pub heads_tested : (a k : List ℕ) → AreBytes a → AreBytes k → ltb (head_of a) (head_of k) ≡ heads_before a k
unfolding heads_before
heads_tested a k u v = less_is (head_of a) (head_of k) ∙ sym (ap is_lt (padded_cmp 8 a k u v))

pub by_heads : (a k : List ℕ) (h g : ℕ) (r : Bool) → IsHeaded h a → IsHeaded g k → r ≡ ltb h g → r ≡ heads_before a k
by_heads a k h g r ha gk e = e ∙ ap (λ (x : ℕ). ltb x g) ha.is_head ∙ ap (λ (x : ℕ). ltb (head_of a) x) gk.is_head ∙ heads_tested a k ha.are_bytes gk.are_bytes

-- a key with another head than k's that is no less stands behind k
pub behind_head : (a k : List ℕ) (h g : ℕ) → IsHeaded h a → IsHeaded g k → h ≢ g → (AreBytes a → AreBytes k → head_of k ≤ head_of a) → by_bytes a k ≡ Greater
behind_head a k h g ha gk n least =
    let differ : head_of a ≢ head_of k = λ e. n (ha.is_head ∙ e ∙ sym gk.is_head) in
    let le : head_of k ≤ head_of a = least ha.are_bytes gk.are_bytes in
    let lt : head_of k < head_of a = ⊎_elim (λ e. absurd (differ e)) (⊎_elim (λ (l : head_of a < head_of k). absurd (omega arith)) (λ l. l)) (cases_order (head_of a) (head_of k)) in
    sym (order_of_heads 8 a k ha.are_bytes gk.are_bytes differ) ∙ cmp_greater (head_of a) (head_of k) lt

module _ {Y : Type 0} where
  -- ---- where a search ends

  -- elements that pass, and one that does not
  pub point_at : (p : Y → Bool) (ys : List Y) (n : ℕ) → AllWithin (λ y. p y ≡ true) ys 0 n → IsPartitionedBy p ys → ((d : Y) → n < length ys → p (get_or ys n d) ≡ false) → IsPartitionPoint (λ y. p y ≡ true) (λ y. p y ≡ false) ys n
  point_at p ys n front c stop = (
    front,
    λ j d l h. false_from_ne_true (p (get_or ys j d)) (λ t.
        let yes : p (get_or ys n d) ≡ true = c n j d l h t in
        let no : p (get_or ys n d) ≡ false = stop d (omega arith) in
        (cc)),
  )

  -- what is left without the first elements
  pub partitioned-drop : (p : Y → Bool) (ys : List Y) (m : ℕ) → m ≤ length ys → IsPartitionedBy p ys → IsPartitionedBy p (drop m ys)
  partitioned-drop p ys m b c i j d l h t =
      let long : length (drop m ys) ≡ length ys - m = length-drop m ys in
      let there : p (get_or ys (m + j) d) ≡ true = sym (ap p (get_or-drop m ys j d)) ∙ t in
      ap p (get_or-drop m ys i d) ∙ c (m + i) (m + j) d (omega arith) (omega (arith, h, long)) there

  -- a search among them, behind elements that pass
  pub point-drop : (p : Y → Bool) (ys : List Y) (m n : ℕ) → m ≤ length ys → AllWithin (λ y. p y ≡ true) ys 0 m → IsPartitionPoint (λ y. p y ≡ true) (λ y. p y ≡ false) (drop m ys) n → IsPartitionPoint (λ y. p y ≡ true) (λ y. p y ≡ false) ys (m + n)
  point-drop p ys m n b front q =
      let read : (j : ℕ) (d : Y) → m ≤ j → get_or (drop m ys) (j - m) d ≡ get_or ys j d = λ j d l. get_or-drop m ys (j - m) d ∙ ap (λ (i : ℕ). get_or ys i d) (omega arith) in (
        λ j d l h. ⊎_elim (λ (g : j < m). front j d l g) (λ (g : m ≤ j). sym (ap p (read j d g)) ∙ q.0 (j - m) d (omega arith) (omega arith)) (cases_lt j m),
        λ j d l h. sym (ap p (read j d (omega arith))) ∙ q.1 (j - m) d (omega arith) (omega (arith, length-drop m ys)),
      )

  -- no key stands behind a later one
  abbrev pub Climbs : (Y → List ℕ) → List Y → Type 0
  Climbs key ys = (i j : ℕ) (d : Y) → i ≤ j → j < length ys → reaches (key (get_or ys i d)) (key (get_or ys j d)) ≡ true

  module _ (key : Y → List ℕ) (ys : List Y) (k : List ℕ) where
    pub heads_partitioned : Climbs key ys → IsPartitionedBy (λ y. heads_before (key y) k) ys
    unfolding heads_before
    heads_partitioned c i j d a b h = le_lt (padded 8 (key (get_or ys i d))) (padded 8 (key (get_or ys j d))) (padded 8 k) (padded_rise 8 (key (get_or ys i d)) (key (get_or ys j d)) (c i j d a b)) h

    -- a search by heads
    pub head_count : (n : ℕ) → n ≤ length ys → IsPartitionPoint (λ y. heads_before (key y) k ≡ true) (λ y. heads_before (key y) k ≡ false) ys n → IsHeadCount key ys k n
    unfolding heads_before
    head_count n b p = record {
      front = record { bound = b; earlier = λ j d l h. before_from_padded 8 (key (get_or ys j d)) k (p.0 j d l h) };
      next = λ d l u v. ge_from_not_lt (head_of (key (get_or ys n d))) (head_of k) (sym (ap is_lt (padded_cmp 8 (key (get_or ys n d)) k u v)) ∙ p.1 n d (omega arith) l);
    }

    -- one more key that stands before k
    pub one_before : (n : ℕ) (y : Y) → AreBefore key ys k n → n < length ys → y ≡ get_or ys n y → before (key y) k ≡ true → AreBefore key ys k (n + 1)
    one_before n y f b at h = record {
      bound = omega arith;
      earlier = λ j d l g. ⊎_elim (λ (m : j < n). f.earlier j d l m)
          (λ (m : n ≤ j). let here : n ≡ j = omega arith in subst (λ (i : ℕ). before (key (get_or ys i d)) k ≡ true) here (ap (λ (x : Y). before (key x) k) (get_or_default ys n d y b ∙ sym at) ∙ h))
          (cases_lt j n);
    }
