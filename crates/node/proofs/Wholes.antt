-- Messages that go to one slot whole.
use Rattle.std.proofs.Common.{◌≡◌, ℕ, zero, suc, ◌++◌, ◌<◌, ◌≤◌, true, false, List, [], ◌∷◌, length, get_or, map, refl, ap, sym, ◌∙◌, Option, Some, None, cond, arith}
use Rattle.std.proofs.Math.ListN.{set}
use Rattle.std.proofs.lemmas.List.{append-nil}
use Rattle.std.proofs.lemmas.Option.{same_Some}
use Rattle.pathkey.proofs.KeyOrder.{from_start}
use Rattle.message.specs.declared.msg.Msg.{Msg}
use Rattle.message.specs.Effects.{point_key, Takes}
use Rattle.message.specs.Ranges.{reaches}
use Rattle.message.proofs.Composing.{takes-none}
use Rattle.node.specs.declared.node.Slot.{Slot}
use Rattle.node.specs.Appended.{batches_by_slot, all_at, HaveTaken}
use Rattle.node.specs.Grafts.{KeepLists}
use Rattle.node.specs.Lawful.{starts_at}
use Rattle.node.specs.Meaning.{begins_by, slot_number, holder}
use Rattle.node.specs.Pure.{PSlots, inner, none, more}
use Rattle.node.specs.Searchable.{AreRising, HasRoomAt, IsRoot}
use Rattle.node.specs.See.{see_slot, seen_slots}
use Rattle.node.proofs.Placing.{placed-batches_by_slot, placed-at, length-batches_by_slot, slot_count-slots}

module _ {U V : Type 0} where
  -- all messages for one slot are those that no slot takes, with all messages in that slot's place
  set_at : (i : ℕ) (ms : List (Msg U V)) (ss : PSlots U V) → set (batches_by_slot None [] ss) i (get_or (batches_by_slot None [] ss) i [] ++ ms) ≡ all_at i ms ss
  set_at i ms none = refl
  set_at zero ms (more lo old n ss) = refl
  set_at (suc i) ms (more lo old n ss) = ap (λ z. [] ∷ z) (set_at i ms ss)

  -- a root holds each key
  pub root_holds : (ss : PSlots U V) (q : List ℕ) → starts_at [] ss → begins_by ss q ≡ true
  root_holds none q h = absurd h
  root_holds (more lo old n ss) q h = ap (λ x. reaches x q) h ∙ from_start q

  -- a message for one key is for the slot that holds the key, whole
  at_number : (m : Msg U V) (q : List ℕ) (xs : List (Slot U V)) (i : ℕ) → Some q ≡ point_key m → AreRising (seen_slots xs) → begins_by (seen_slots xs) q ≡ true → i ≡ slot_number (seen_slots xs) q → all_at i (m ∷ []) (seen_slots xs) ≡ batches_by_slot None (m ∷ []) (seen_slots xs)
  at_number m q xs i e r f h =
      let ss = seen_slots xs in
      let ps = batches_by_slot None [] ss in
      let len = length-batches_by_slot None [] xs ∙ sym (slot_count-slots xs) in
      sym (set_at i (m ∷ []) ss)
      ∙ ap (λ j. set ps j (get_or ps j [] ++ m ∷ [])) h
      ∙ sym (placed-at None m q ss ps (sym e) r f refl len)
      ∙ placed-batches_by_slot None [] m ss

  -- the same of a root, which holds each key
  pub at_slot : (m : Msg U V) (q : List ℕ) (xs : List (Slot U V)) (i : ℕ) → Some q ≡ point_key m → IsRoot (inner (seen_slots xs)) → i ≡ slot_number (seen_slots xs) q → all_at i (m ∷ []) (seen_slots xs) ≡ batches_by_slot None (m ∷ []) (seen_slots xs)
  at_slot m q xs i e r h = at_number m q xs i e r.1 (root_holds (seen_slots xs) q r.0) h

  -- and of slots that were asked which of them holds the key
  pub at_holder : (m : Msg U V) (q : List ℕ) (xs : List (Slot U V)) (i : ℕ) → Some q ≡ point_key m → AreRising (seen_slots xs) → Some i ≡ holder (seen_slots xs) q → all_at i (m ∷ []) (seen_slots xs) ≡ batches_by_slot None (m ∷ []) (seen_slots xs)
  at_holder m q xs i e r h =
      (elim (begins_by (seen_slots xs) q) as (λ b. begins_by (seen_slots xs) q ≡ b → Some i ≡ cond b (Some (slot_number (seen_slots xs) q)) None → all_at i (m ∷ []) (seen_slots xs) ≡ batches_by_slot None (m ∷ []) (seen_slots xs)) [
        | true ↦ λ f n. at_number m q xs i e r f (same_Some i (slot_number (seen_slots xs) q) n)
        | false ↦ λ f n. absurd (cc)
      ]) refl h

  -- a list of the same messages in the place of a slot's changes no meaning
  pub see-pending : (xs : List (Slot U V)) (i : ℕ) (d : Slot U V) (p : List (Msg U V) × ℕ) → p.0 ≡ (get_or xs i d).pending.0 → map see_slot (set xs i (record { lo = (get_or xs i d).lo; pending = p; child = (get_or xs i d).child })) ≡ map see_slot xs
  see-pending [] i d p e = refl
  see-pending (x ∷ xs) zero d p e = ap (λ ms. record { lo = x.lo; msgs = ms; child = x.child.value } ∷ map see_slot xs) e
  see-pending (x ∷ xs) (suc i) d p e = ap (λ ys. see_slot x ∷ ys) (see-pending xs i d p e)

  -- a slot with room
  pub room-set : (xs : List (Slot U V)) (i n : ℕ) (t : Slot U V) → i < length xs → n ≤ t.pending.1 → HasRoomAt i n (set xs i t)
  room-set [] i n t b h = absurd (omega (arith, b))
  room-set (x ∷ xs) zero n t b h = h
  room-set (x ∷ xs) (suc i) n t b h = room-set xs i n t (omega (arith, b)) h

  pub room-get : (xs : List (Slot U V)) (i n : ℕ) (d : Slot U V) → HasRoomAt i n xs → n ≤ (get_or xs i d).pending.1
  room-get [] i n d h = absurd h
  room-get (x ∷ xs) zero n d h = h
  room-get (x ∷ xs) (suc i) n d h = room-get xs i n d h

  -- lists that take nothing stay
  pub kept-none : (ks : List ℕ) (ss : PSlots U V) → KeepLists ks (batches_by_slot None [] ss) ss ss
  kept-none [] none = tt
  kept-none (k ∷ ks) none = tt
  kept-none [] (more lo ms n ss) = tt
  kept-none (k ∷ ks) (more lo ms n ss) = (λ z. sym (append-nil ms), kept-none ks ss)

  -- lists stay where one slot takes messages: those of all others, and its own if they stand behind it
  pub kept-at : (ks : List ℕ) (ms : List (Msg U V)) (xs : List (Slot U V)) (i : ℕ) (d : Slot U V) (p : List (Msg U V) × ℕ) → i < length xs → (0 < get_or ks i 0 → p.0 ≡ (get_or xs i d).pending.0 ++ ms) → KeepLists ks (all_at i ms (seen_slots xs)) (seen_slots xs) (seen_slots (set xs i (record { lo = (get_or xs i d).lo; pending = p; child = (get_or xs i d).child })))
  kept-at ks ms [] i d p b same = absurd (omega (arith, b))
  kept-at [] ms (x ∷ xs) zero d p b same = tt
  kept-at [] ms (x ∷ xs) (suc i) d p b same = tt
  kept-at (k ∷ ks) ms (x ∷ xs) zero d p b same = (same, kept-none ks (seen_slots xs))
  kept-at (k ∷ ks) ms (x ∷ xs) (suc i) d p b same = (λ z. sym (append-nil x.pending.0), kept-at ks ms xs i d p (omega (arith, b)) same)

module _ {U V : Type 0} (means : U → Option V → Option V) where
  -- slots that take nothing stay
  pub taken-none : (ss : PSlots U V) → HaveTaken means ss (batches_by_slot None [] ss) ss
  taken-none none = tt
  taken-none (more lo old n ss) = (refl, takes-none means old, refl, taken-none ss)

  -- one slot takes messages
  pub taken-at : (ms : List (Msg U V)) (xs : List (Slot U V)) (i : ℕ) (d : Slot U V) (p : List (Msg U V) × ℕ) → i < length xs → Takes means (get_or xs i d).pending.0 ms p.0 → HaveTaken means (seen_slots xs) (all_at i ms (seen_slots xs)) (seen_slots (set xs i (record { lo = (get_or xs i d).lo; pending = p; child = (get_or xs i d).child })))
  taken-at ms [] i d p b takes = absurd (omega (arith, b))
  taken-at ms (x ∷ xs) zero d p b takes = (refl, takes, refl, taken-none (seen_slots xs))
  taken-at ms (x ∷ xs) (suc i) d p b takes = (refl, takes-none means x.pending.0, refl, taken-at ms xs i d p (omega (arith, b)) takes)
