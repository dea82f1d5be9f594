-- The ends of messages ahead of a key: a search passes one with each segment.
use Rattle.std.proofs.Common.{◌≡◌, ℕ, zero, suc, ◌+◌, ◌<◌, ◌≤◌, ◌⊎◌, inl, inr, Bool, true, false, List, [], ◌∷◌, ◌++◌, length, get_or, refl, ap, ◌∙◌, Option, Some, None, cond, arith}
use Rattle.std.specs.Prelude.{Contains}
use Rattle.std.specs.Option.{option_to_list}
use Rattle.std.proofs.lemmas.Option.{same_Some}
use Rattle.std.proofs.lemmas.List.Elements.{Contains-append_left, Contains-append_right}
use Rattle.pathkey.proofs.KeyOrder.{lt_le, reaches-refl, reaches-from_before, not_before_from_reaches}
use Rattle.message.specs.Ranges.{before, earlier_end}
use Rattle.node.specs.declared.node.Slot.{Slot}
use Rattle.node.specs.See.{seen_slots}
use Rattle.node.specs.Site.{end_of}
use Rattle.message.specs.Stretches.{all_ends}

-- the number of keys after c
abbrev pub ahead : List ℕ → List (List ℕ) → ℕ
ahead c [] = 0
ahead c (b ∷ bs) = cond (before c b) 1 0 + ahead c bs

fewer_by : (b c : Bool) (m n : ℕ) → (b ≡ true → c ≡ true) → m ≤ n → cond b 1 0 + m ≤ cond c 1 0 + n
fewer_by true true m n f h = omega arith
fewer_by true false m n f h = absurd (let e : false ≡ true = f refl in cc)
fewer_by false true m n f h = omega arith
fewer_by false false m n f h = omega arith

-- what is after a later key is after an earlier one
pub fewer : (c d : List ℕ) (bs : List (List ℕ)) → before c d ≡ true → ahead d bs ≤ ahead c bs
fewer c d [] l = omega arith
fewer c d (b ∷ bs) l = fewer_by (before d b) (before c b) (ahead d bs) (ahead c bs) (λ e. lt_le c d b l (reaches-from_before d b e)) (fewer c d bs l)

less_here : (b c : Bool) (m n : ℕ) → b ≡ false → c ≡ true → m ≤ n → cond b 1 0 + m < cond c 1 0 + n
less_here true c m n e f h = (cc)
less_here false true m n e f h = omega arith
less_here false false m n e f h = (cc)

less_later : (b c : Bool) (m n : ℕ) → (b ≡ true → c ≡ true) → m < n → cond b 1 0 + m < cond c 1 0 + n
less_later true true m n f h = omega arith
less_later true false m n f h = absurd (let e : false ≡ true = f refl in cc)
less_later false true m n f h = omega arith
less_later false false m n f h = omega arith

-- after a later one of them there are fewer
pub ahead_falls : (c d : List ℕ) (bs : List (List ℕ)) → before c d ≡ true → Contains bs d → ahead d bs < ahead c bs
ahead_falls c d [] l h = absurd (let b = h.1 in omega (arith, b))
ahead_falls c d (b ∷ bs) l (zero, h, e) = less_here (before d b) (before c b) (ahead d bs) (ahead c bs) (ap (before d) e ∙ not_before_from_reaches d d (reaches-refl d)) (ap (before c) e ∙ l) (fewer c d bs l)
ahead_falls c d (b ∷ bs) l (suc i, h, e) = less_later (before d b) (before c b) (ahead d bs) (ahead c bs) (λ t. lt_le c d b l (reaches-from_before d b t)) (ahead_falls c d bs l (i, omega (arith, h), e))

earlier_by : (c : Bool) (a b d : List ℕ) → cond c a b ≡ d → (Some a ≡ Some d) ⊎ (Some b ≡ Some d)
earlier_by true a b d e = inl (ap Some e)
earlier_by false a b d e = inr (ap Some e)

-- the earlier of two ends is one of them
pub earlier_is : (a b : Option (List ℕ)) (d : List ℕ) → earlier_end a b ≡ Some d → (a ≡ Some d) ⊎ (b ≡ Some d)
earlier_is None b d e = inr e
earlier_is (Some a) None d e = inl e
earlier_is (Some a) (Some b) d e = earlier_by (before a b) a b d (same_Some (cond (before a b) a b) d e)

module _ {U V : Type 0} where
  -- the pivots of the slots, and the ends of all their messages
  abbrev pub slot_ends : List (Slot U V) → List (List ℕ)
  slot_ends [] = []
  slot_ends (s ∷ ss) = s.lo ∷ (all_ends s.pending.0 ++ slot_ends ss)

  -- the ends of a slot's messages are among them
  pub message_end : (ss : List (Slot U V)) (i : ℕ) (d : Slot U V) (k : List ℕ) → i < length ss → Contains (all_ends (get_or ss i d).pending.0) k → Contains (slot_ends ss) k
  message_end [] i d k l h = absurd (omega arith)
  message_end (s ∷ ss) zero d k l h = Contains-append_right (s.lo ∷ []) (all_ends s.pending.0 ++ slot_ends ss) k (Contains-append_left (all_ends s.pending.0) (slot_ends ss) k h)
  message_end (s ∷ ss) (suc i) d k l h = Contains-append_right (s.lo ∷ all_ends s.pending.0) (slot_ends ss) k (message_end ss i d k (omega arith) h)

  -- and the end of a slot
  pub pivot_end : (ss : List (Slot U V)) (i : ℕ) (k : List ℕ) → end_of None (seen_slots ss) i ≡ Some k → Contains (slot_ends ss) k
  pivot_end [] i k e = (cc)
  pivot_end (s ∷ []) zero k e = (cc)
  pivot_end (s ∷ (r ∷ ss)) zero k e = Contains-append_right (s.lo ∷ all_ends s.pending.0) (slot_ends (r ∷ ss)) k (0, omega arith, same_Some r.lo k e)
  pivot_end (s ∷ ss) (suc i) k e = Contains-append_right (s.lo ∷ all_ends s.pending.0) (slot_ends ss) k (pivot_end ss i k e)

  -- the end of the range, and all those
  abbrev pub search_ends : Option (List ℕ) → List (Slot U V) → List (List ℕ)
  search_ends hi ss = option_to_list hi ++ slot_ends ss

  pub range_end_is : (hi : Option (List ℕ)) (ss : List (Slot U V)) (k : List ℕ) → hi ≡ Some k → Contains (search_ends hi ss) k
  range_end_is None ss k e = (cc)
  range_end_is (Some h) ss k e = (0, omega arith, same_Some h k e)

  pub slot_end_is : (hi : Option (List ℕ)) (ss : List (Slot U V)) (k : List ℕ) → Contains (slot_ends ss) k → Contains (search_ends hi ss) k
  slot_end_is hi ss k h = Contains-append_right (option_to_list hi) (slot_ends ss) k h
