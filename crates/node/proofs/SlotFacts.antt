-- Facts on slots by their numbers.
use Rattle.std.proofs.Common.{◌≡◌, ℕ, zero, suc, ◌+◌, ◌<◌, ◌≤◌, Bool, true, false, List, [], ◌∷◌, length, get_or, refl, ap, sym, ◌∙◌, subst, arith, cond, Option, add-one}
use Rattle.message.specs.Ranges.{reaches}
use Rattle.message.specs.Effects.{effects}
use Rattle.node.specs.Meaning.{value, slots_value, slot_number}
use Rattle.node.specs.declared.node.Slot.{Slot}
use Rattle.node.specs.Pure.{PNode, inner, slots}
use Rattle.node.specs.See.{see_slot, seen_slots}
use Rattle.node.specs.Searchable.{AreRising}
use Rattle.std.specs.Prelude.{◌++◌, OnErr, Result, Ok, Err, drop, map, take}
use Rattle.std.proofs.lemmas.List.{append-nil, drop_all, get_or_default, length-map, take_all}
use Rattle.std.specs.List.{AllWithin}
use Rattle.std.specs.List.Sorted.{IsPartitionedBy, IsPartitionPoint}
use Rattle.pathkey.proofs.KeyOrder.{reaches-from_before, reaches-refl, le_le}
use Rattle.node.specs.HeadCount.{AreBefore}
use Rattle.node.proofs.HeadSearch.{Climbs, point_at}

module _ {U V : Type 0} where
  -- slots that were lent as a whole and mean what they meant: where there is an error, the node is as it was
  pub borrowed_back : {T E : Type 0} (r : Result T E) (n : ℕ) (items borrowed new : List (Slot U V)) (node : PNode U V) → length borrowed ≡ n → borrowed ≡ items → map see_slot new ≡ map see_slot borrowed → inner (seen_slots items) ≡ node → OnErr r (inner (seen_slots (take n (new ++ drop (length new) items))) ≡ node)
  borrowed_back (Ok x) n items borrowed new node l is same e = tt
  borrowed_back (Err x) n items borrowed new node l is same e =
      let seen : map see_slot new ≡ map see_slot items = same ∙ ap (map see_slot) is in
      let long : length new ≡ length items = sym (length-map new see_slot) ∙ ap length seen ∙ length-map items see_slot in
      let all : length items ≡ n = sym (ap length is) ∙ l in
      let whole : new ++ drop (length new) items ≡ new = ap (λ z. new ++ z) (drop_all (length new) items (omega (arith, long))) ∙ append-nil new in
      ap (λ z. inner (seen_slots z)) (ap (take n) whole ∙ take_all n new (omega (arith, long, all))) ∙ ap (λ z. inner (slots z)) seen ∙ e

  -- the slot whose successor is the first that begins above k
  pub slot_number_is : (k : List ℕ) (ss : List (Slot U V)) (i : ℕ) → i < length ss → ((j : ℕ) (d : Slot U V) → j < i → reaches (get_or ss (suc j) d).lo k ≡ true) → ((d : Slot U V) → suc i < length ss → reaches (get_or ss (suc i) d).lo k ≡ false) → i ≡ slot_number (seen_slots ss) k
  slot_number_is k [] i h up stop = absurd (omega arith)
  slot_number_is k (s ∷ []) zero h up stop = refl
  slot_number_is k (s ∷ []) (suc i) h up stop = absurd (omega arith)
  slot_number_is k (s ∷ (r ∷ ss)) zero h up stop = rw (stop s (omega arith))
  slot_number_is k (s ∷ (r ∷ ss)) (suc i) h up stop =
      let rest = seen_slots (r ∷ ss) in
      let e = slot_number_is k (r ∷ ss) i (omega arith) (λ j d q. up (suc j) d (omega arith)) (λ d q. stop d (omega arith)) in
      ap suc e ∙ sym (add-one (slot_number rest k)) ∙ sym (ap (λ (b : Bool). cond b (slot_number rest k + 1) 0) (up 0 s (omega arith)))

  -- the value is what the messages of that slot make of its child's value
  pub slots_value_is : (means : U → Option V → Option V) (k : List ℕ) (ss : List (Slot U V)) (d : Slot U V) → 0 < length ss → slots_value means (seen_slots ss) k ≡ effects means (get_or ss (slot_number (seen_slots ss) k) d).pending.0 k (value means (get_or ss (slot_number (seen_slots ss) k) d).child.value k)
  slots_value_is means k [] d h = absurd (omega arith)
  slots_value_is means k (s ∷ []) d h = refl
  slots_value_is means k (s ∷ (r ∷ ss)) d h =
      let rest = seen_slots (r ∷ ss) in
      elim (reaches r.lo k) as (λ b. cond b (slots_value means rest k) (effects means s.pending.0 k (value means s.child.value k)) ≡ effects means (get_or (s ∷ (r ∷ ss)) (cond b (slot_number rest k + 1) 0) d).pending.0 k (value means (get_or (s ∷ (r ∷ ss)) (cond b (slot_number rest k + 1) 0) d).child.value k)) [
        | true ↦ subst (λ (i : ℕ). slots_value means rest k ≡ effects means (get_or (s ∷ (r ∷ ss)) i d).pending.0 k (value means (get_or (s ∷ (r ∷ ss)) i d).child.value k)) (sym (add-one (slot_number rest k))) (slots_value_is means k (r ∷ ss) d (omega arith))
        | false ↦ refl
      ]

  -- each later slot begins at or above the first
  first_reaches : (x : Slot U V) (xs : List (Slot U V)) (j : ℕ) (d : Slot U V) → AreRising (seen_slots (x ∷ xs)) → j < length xs → reaches x.lo (get_or xs j d).lo ≡ true
  first_reaches x [] j d r h = absurd (omega arith)
  first_reaches x (y ∷ ys) zero d r h = reaches-from_before x.lo y.lo r.0
  first_reaches x (y ∷ ys) (suc j) d r h = le_le x.lo y.lo (get_or ys j d).lo (reaches-from_before x.lo y.lo r.0) (first_reaches y ys j d r.1 (omega arith))

  -- each slot begins at or above the earlier ones
  pub slots_climb : (xs : List (Slot U V)) → AreRising (seen_slots xs) → Climbs (λ (s : Slot U V). s.lo) xs
  slots_climb [] r i j d a b = absurd (omega arith)
  slots_climb (x ∷ xs) r zero zero d a b = reaches-refl x.lo
  slots_climb (x ∷ xs) r zero (suc j) d a b = first_reaches x xs j d r (omega arith)
  slots_climb (x ∷ xs) r (suc i) zero d a b = absurd (omega arith)
  slots_climb (x ∷ xs) r (suc i) (suc j) d a b = slots_climb xs r.1 i j d (omega arith) (omega arith)

  -- what a search asks of rising pivots
  pub partitioned-rising : (k : List ℕ) (xs : List (Slot U V)) → AreRising (seen_slots xs) → IsPartitionedBy (λ (s : Slot U V). reaches s.lo k) xs
  partitioned-rising k xs r i j d a b e = le_le (get_or xs i d).lo (get_or xs j d).lo k (slots_climb xs r i j d a b) e

  -- slots that begin before a key begin at or before it
  pub begun : (k : List ℕ) (xs : List (Slot U V)) (n : ℕ) → AreBefore (λ (s : Slot U V). s.lo) xs k n → AllWithin (λ (s : Slot U V). reaches s.lo k ≡ true) xs 0 n
  begun k xs n f j d a b = reaches-from_before (get_or xs j d).lo k (f.earlier j d a b)

  -- up to one that begins above it
  pub begun_at : (k : List ℕ) (xs : List (Slot U V)) (n : ℕ) → AreRising (seen_slots xs) → AreBefore (λ (s : Slot U V). s.lo) xs k n → ((d : Slot U V) → n < length xs → reaches (get_or xs n d).lo k ≡ false)
      → IsPartitionPoint (λ (s : Slot U V). reaches s.lo k ≡ true) (λ (s : Slot U V). reaches s.lo k ≡ false) xs n
  begun_at k xs n r f stop = point_at (λ (s : Slot U V). reaches s.lo k) xs n (begun k xs n f) (partitioned-rising k xs r) stop

  pub begun_here : (k : List ℕ) (xs : List (Slot U V)) (n : ℕ) (s : Slot U V) → AreRising (seen_slots xs) → AreBefore (λ (s : Slot U V). s.lo) xs k n → n < length xs → s ≡ get_or xs n s → reaches s.lo k ≡ false
      → IsPartitionPoint (λ (s : Slot U V). reaches s.lo k ≡ true) (λ (s : Slot U V). reaches s.lo k ≡ false) xs n
  begun_here k xs n s r f b at h = begun_at k xs n r f (λ d l. subst (λ (x : Slot U V). reaches x.lo k ≡ false) (at ∙ get_or_default xs n s d b) h)

  pub number-by_search : (k : List ℕ) (x : Slot U V) (xs : List (Slot U V)) (i : ℕ) → i ≤ length xs → IsPartitionPoint (λ (s : Slot U V). reaches s.lo k ≡ true) (λ (s : Slot U V). reaches s.lo k ≡ false) xs i → i ≡ slot_number (seen_slots (x ∷ xs)) k
  number-by_search k x xs i b p = slot_number_is k (x ∷ xs) i (omega arith) (λ j d h. p.0 j d (omega arith) h) (λ d h. p.1 i d (omega arith) (omega arith))
