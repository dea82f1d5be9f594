-- Slots that are sought along rising keys, and the messages of a walk that are shared with them.
use Rattle.std.proofs.Common.{◌≡◌, ℕ, zero, suc, ◌+◌, ◌++◌, ◌<◌, ◌≤◌, List, [], ◌∷◌, length, take, drop, get_or, refl, ap, sym, ◌∙◌, subst, Option, Some, None, Bool, true, false, cond, add-one, arith, length-append}
use Rattle.std.specs.Prelude.{Ok, Result}
use Rattle.std.specs.declared.cmp.Ordering.{Ordering}
use Rattle.std.specs.declared.cmp.Ordering.TheVariants.{Less}
use Rattle.std.specs.List.{All, slice_get}
use Rattle.std.specs.Map.{keys_of}
use Rattle.std.specs.Option.{option_map}
use Rattle.std.specs.Ordering.{is_le}
use Rattle.std.proofs.Math.ListN.{set}
use Rattle.std.proofs.Math.Seq.{take-append_seam}
use Rattle.std.proofs.lemmas.Bool.{false≢true}
use Rattle.std.proofs.lemmas.Map.Keys.{sorted_head}
use Rattle.std.proofs.lemmas.Option.{same_Some}
use Rattle.pathkey.specs.Order.{by_bytes}
use Rattle.cow_map.specs.Places.{Rises}
use Rattle.message.specs.declared.msg.Msg.{Msg}
use Rattle.message.specs.Effects.{point_key, Takes}
use Rattle.message.specs.Oldest.{first_point}
use Rattle.message.specs.Ranges.{reaches}
use Rattle.point_ops.specs.Changes.{KeyOp, run_msgs}
use Rattle.point_ops.specs.PointOps.{point_msgs}
use Rattle.pending.specs.OldestWalk.{first_len}
use Rattle.point_ops.proofs.Parting.{msgs_len}
use Rattle.pending.proofs.Runs.{run_alike, run_first}
use Rattle.node.specs.Appended.{batches_by_slot, HaveTaken}
use Rattle.node.specs.Meaning.{begins_by, slot_number, holder}
use Rattle.node.specs.declared.node.Slot.{Slot}
use Rattle.node.specs.See.{seen_slots}
use Rattle.node.specs.Pure.{PSlots, none, more}
use Rattle.node.specs.Searchable.{AreRising}
use Rattle.node.specs.Site.{slots_from}
use Rattle.node.proofs.Placing.{begins_later, reached_before}
use Rattle.node.proofs.Splice.{slots_from-past}
use Rattle.node.proofs.StepPlaces.{slots_from-get}
use Rattle.flush.specs.Sunk.{BeginsByFirst, Moved}
use Rattle.flush.proofs.Keyed.{next_msgs}
use Rattle.flush.proofs.Moves.{moved_run}

module _ {U V : Type 0} where
  -- ---- the slot that holds a key

  from_first : (ss : PSlots U V) → slots_from 0 ss ≡ ss
  from_first none = refl
  from_first (more lo ms n ss) = refl

  begins_first : (i : ℕ) (ss : PSlots U V) (k : List ℕ) → AreRising ss → begins_by (slots_from i ss) k ≡ true → begins_by ss k ≡ true
  begins_first i none k r h = h
  begins_first zero (more lo ms n ss) k r h = h
  begins_first (suc i) (more lo ms n ss) k r h = reached_before lo k ss r.0 (begins_first i ss k r.1 h)

  number_from : (i : ℕ) (ss : PSlots U V) (k : List ℕ) → AreRising ss → begins_by (slots_from i ss) k ≡ true → begins_by (slots_from (suc i) ss) k ≡ false → slot_number ss k ≡ i
  number_from i none k r h stop = absurd (false≢true h)
  number_from zero (more lo ms n ss) k r h stop = ap (λ (b : Bool). cond b (slot_number ss k + 1) 0) (ap (λ (z : PSlots U V). begins_by z k) (sym (from_first ss)) ∙ stop)
  number_from (suc i) (more lo ms n ss) k r h stop =
      ap (λ (b : Bool). cond b (slot_number ss k + 1) 0) (begins_first i ss k r.1 h)
      ∙ add-one (slot_number ss k)
      ∙ ap suc (number_from i ss k r.1 h stop)

  -- the last slot that begins at or before a key holds it
  holder_from_last : (i : ℕ) (ss : PSlots U V) (k : List ℕ) → AreRising ss → begins_by (slots_from i ss) k ≡ true → begins_by (slots_from (suc i) ss) k ≡ false → Some i ≡ holder ss k
  holder_from_last i ss k r h stop =
      ap Some (sym (number_from i ss k r h stop))
      ∙ sym (ap (λ (b : Bool). cond b (Some (slot_number ss k)) None) (begins_first i ss k r h))

  -- likewise for the slots of a list, the next of which is not there or begins after the key
  pub holder_at_end : (xs : List (Slot U V)) (i : ℕ) (k : List ℕ) → AreRising (seen_slots xs) → begins_by (slots_from i (seen_slots xs)) k ≡ true → length xs ≤ i + 1 → Some i ≡ holder (seen_slots xs) k
  holder_at_end xs i k r h end = holder_from_last i (seen_slots xs) k r h (ap (λ (z : PSlots U V). begins_by z k) (slots_from-past xs (suc i) (omega (arith, end))))

  pub holder_before : (xs : List (Slot U V)) (i : ℕ) (d : Slot U V) (k : List ℕ) (o : Ordering) (b : Bool) → AreRising (seen_slots xs) → begins_by (slots_from i (seen_slots xs)) k ≡ true → i + 1 < length xs → o ≡ by_bytes (get_or xs (i + 1) d).lo k → b ≡ is_le o → b ≡ false → Some i ≡ holder (seen_slots xs) k
  holder_before xs i d k o b r h some order test after =
      holder_from_last i (seen_slots xs) k r h
      (ap (λ (z : PSlots U V). begins_by z k) (slots_from-get xs (suc i) d (omega (arith, some)))
      ∙ ap (λ (j : ℕ). reaches (get_or xs j d).lo k) (sym (add-one i))
      ∙ ap is_le (sym order)
      ∙ sym test
      ∙ after)

  -- the slot with this number begins at or before the key
  pub begins_at : (xs : List (Slot U V)) (i : ℕ) (d : Slot U V) (k : List ℕ) (o : Ordering) (b : Bool) → i < length xs → o ≡ by_bytes (get_or xs i d).lo k → b ≡ is_le o → b ≡ true → begins_by (slots_from i (seen_slots xs)) k ≡ true
  begins_at xs i d k o b some order test h = ap (λ (z : PSlots U V). begins_by z k) (slots_from-get xs i d some) ∙ ap is_le (sym order) ∙ sym test ∙ h

  pub within_slots : (xs : List (Slot U V)) (i : ℕ) (k : List ℕ) → begins_by (slots_from i (seen_slots xs)) k ≡ true → i < length xs
  within_slots [] i k h = absurd (false≢true h)
  within_slots (x ∷ xs) zero k h = omega arith
  within_slots (x ∷ xs) (suc i) k h = omega (arith, within_slots xs i k h)

  -- the holder of a key begins at or before it
  number_begins : (ss : PSlots U V) (k : List ℕ) → begins_by ss k ≡ true → begins_by (slots_from (slot_number ss k) ss) k ≡ true
  number_begins none k h = h
  number_begins (more lo ms n ss) k h =
      (elim (begins_by ss k) as (λ (b : Bool). begins_by ss k ≡ b → begins_by (slots_from (cond b (slot_number ss k + 1) 0) (more lo ms n ss)) k ≡ true) [
        | true ↦ λ e. subst (λ (i : ℕ). begins_by (slots_from i (more lo ms n ss)) k ≡ true) (sym (add-one (slot_number ss k))) (number_begins ss k e)
        | false ↦ λ e. h
      ]) refl

  pub holder_begins : (ss : PSlots U V) (k : List ℕ) (i : ℕ) → Some i ≡ holder ss k → begins_by (slots_from i ss) k ≡ true
  holder_begins ss k i h =
      (elim (begins_by ss k) as (λ (b : Bool). begins_by ss k ≡ b → Some i ≡ cond b (Some (slot_number ss k)) None → begins_by (slots_from i ss) k ≡ true) [
        | true ↦ λ e s. subst (λ (j : ℕ). begins_by (slots_from j ss) k ≡ true) (sym (same_Some i (slot_number ss k) s)) (number_begins ss k e)
        | false ↦ λ e s. absurd (cc)
      ]) refl h

  module _ {X : Type 0} where
    -- slots that begin at or before the first of the keys of a walk
    pub begins_walk : (w : List (List ℕ × X)) (ss : PSlots U V) (k : List ℕ) → Some k ≡ option_map (λ e. e.0) (slice_get w 0) → begins_by ss k ≡ true → BeginsByFirst w ss
    begins_walk [] ss k e h = tt
    begins_walk (f ∷ w) ss k e h = subst (λ (q : List ℕ). begins_by ss q ≡ true) (same_Some k f.0 e) h

    -- and the next, which is later
    pub begins_next : (w : List (List ℕ × X)) (ss : PSlots U V) (k : List ℕ) → Rises w → Some k ≡ option_map (λ e. e.0) (slice_get w 0) → begins_by ss k ≡ true → BeginsByFirst (drop 1 w) ss
    begins_next [] ss k r e h = tt
    begins_next (f ∷ []) ss k r e h = tt
    begins_next (f ∷ (g ∷ w)) ss k r e h =
        let less : by_bytes f.0 g.0 ≡ Less = (sorted_head by_bytes f.0 (keys_of (g ∷ w)) r).0 in
        begins_later ss f.0 g.0 (ap is_le less) (subst (λ (q : List ℕ). begins_by ss q ≡ true) (same_Some k f.0 e) h)

module _ {U V : Type 0} (means : U → Option V → Option V) where
  -- slots that have taken messages begin where they did
  begins-taken : (ms : List (Msg U V)) (i : ℕ) (ss new : PSlots U V) (k : List ℕ) → HaveTaken means ss (batches_by_slot None ms ss) new → begins_by (slots_from i new) k ≡ begins_by (slots_from i ss) k
  begins-taken ms i none none k t = refl
  begins-taken ms i none (more lo' new' n' ss') k t = absurd t
  begins-taken ms i (more lo old n ss) none k t = absurd t
  begins-taken ms zero (more lo old n ss) (more lo' new' n' ss') k t = ap (λ (l : List ℕ). reaches l k) t.0
  begins-taken ms (suc i) (more lo old n ss) (more lo' new' n' ss') k t = begins-taken ms i ss ss' k t.3

  pub still_begins : {X : Type 0} (ms : List (Msg U V)) (i : ℕ) (w : List (List ℕ × X)) (ss new : PSlots U V) → HaveTaken means ss (batches_by_slot None ms ss) new → BeginsByFirst w (slots_from i ss) → BeginsByFirst w (slots_from i new)
  still_begins ms i [] ss new t h = tt
  still_begins ms i (f ∷ w) ss new t h = begins-taken ms i ss new f.0 t ∙ h

  -- ---- the messages of a walk

  module _ (k : List ℕ) (cs : List (KeyOp U V)) (es : List (List ℕ × List (KeyOp U V))) where
    run_taken : take (length cs) (run_msgs k cs ++ point_msgs es) ≡ run_msgs k cs
    run_taken = ap (λ n. take n (run_msgs k cs ++ point_msgs es)) (sym (msgs_len k cs)) ∙ take-append_seam (run_msgs k cs) (point_msgs es)

    run_alone : 0 < length cs → All (λ m. point_key m ≡ first_point (run_msgs k cs ++ point_msgs es)) (take (length cs) (run_msgs k cs ++ point_msgs es))
    run_alone some =
        subst (λ (q : Option (List ℕ)). All (λ m. point_key m ≡ q) (take (length cs) (run_msgs k cs ++ point_msgs es))) (sym (run_first k cs (point_msgs es) some)) (subst (λ ms. All (λ m. point_key m ≡ Some k) ms) (sym run_taken) (run_alike k cs))

  -- those of the next key were shared with the slot that holds it
  pub moved_first : (w : List (List ℕ × List (KeyOp U V))) (k : List ℕ) (xs : List (Slot U V)) (i : ℕ) (d : Slot U V) (p : List (Msg U V) × ℕ) (n room : ℕ) → Some k ≡ option_map (λ e. e.0) (slice_get w 0) → AreRising (seen_slots xs) → Some i ≡ holder (seen_slots xs) k → i < length xs → n ≡ first_len w → 0 < n → n ≤ room → Takes means (get_or xs i d).pending.0 (take n (point_msgs w)) p.0 → Moved means n (point_msgs w) (point_msgs (drop 1 w)) (seen_slots xs) (seen_slots (set xs i (record { lo = (get_or xs i d).lo; pending = p; child = (get_or xs i d).child })))
  moved_first [] k xs i d p n room e rising held b len some few takes = absurd (cc)
  moved_first (f ∷ w) k xs i d p n room e rising held b len some few takes =
      let ms = point_msgs (f ∷ w) in
      let key : Some k ≡ first_point ms = e ∙ sym (run_first f.0 f.1 (point_msgs w) (omega (arith, some, len))) in
      let r : Result ℕ ℕ = Ok n in
      moved_run means k xs i d p room ms (point_msgs w) r rising held b key takes
      (sym (ap (λ j. drop j ms) len ∙ next_msgs (f ∷ w)))
      (few, omega (arith, len, length-append (run_msgs f.0 f.1) (point_msgs w), msgs_len f.0 f.1))
      (subst (λ j. All (λ m. point_key m ≡ first_point ms) (take j ms)) (sym len) (run_alone f.0 f.1 w (omega (arith, some, len))))
      (λ z. absurd (omega (arith, z, some)))

  -- likewise, and the walk has passed the key
  pub shared_first : (w rest : List (List ℕ × List (KeyOp U V))) (k : List ℕ) (xs : List (Slot U V)) (i : ℕ) (d : Slot U V) (p : List (Msg U V) × ℕ) (n room : ℕ) → rest ≡ drop 1 w → Rises w → Some k ≡ option_map (λ e. e.0) (slice_get w 0) → AreRising (seen_slots xs) → Some i ≡ holder (seen_slots xs) k → i < length xs → n ≡ first_len w → 0 < n → n ≤ room → Takes means (get_or xs i d).pending.0 (take n (point_msgs w)) p.0 → let new = seen_slots (set xs i (record { lo = (get_or xs i d).lo; pending = p; child = (get_or xs i d).child })) in Moved means n (point_msgs w) (point_msgs rest) (seen_slots xs) new × BeginsByFirst rest (slots_from i new)
  shared_first w rest k xs i d p n room passed rises e rising held b len some few takes =
      let ss = seen_slots xs in
      let new = seen_slots (set xs i (record { lo = (get_or xs i d).lo; pending = p; child = (get_or xs i d).child })) in
      let moved : Moved means n (point_msgs w) (point_msgs (drop 1 w)) ss new = moved_first w k xs i d p n room e rising held b len some few takes in
      let next : BeginsByFirst (drop 1 w) (slots_from i ss) = begins_next w (slots_from i ss) k rises e (holder_begins ss k i held) in (
        subst (λ z. Moved means n (point_msgs w) (point_msgs z) ss new) (sym passed) moved,
        subst (λ z. BeginsByFirst z (slots_from i new)) (sym passed) (still_begins (take n (point_msgs w)) i (drop 1 w) ss new moved.taken next),
      )

  -- messages that moved, and then none
  pub moved_still : (n : ℕ) (ms mid rest : List (Msg U V)) (cs ds es : PSlots U V) → Moved means n ms mid cs ds → rest ≡ mid → es ≡ ds → Moved means n ms rest cs es
  moved_still n ms mid rest cs ds es m l e = record {
    within = m.within;
    left = l ∙ m.left;
    taken = subst (λ z. HaveTaken means cs (batches_by_slot None (take n ms) cs) z) (sym e) m.taken;
    few = m.few;
    still = λ z. e ∙ m.still z;
  }

  pub moved-then_none : (a b : ℕ) (ms mid rest : List (Msg U V)) (cs ds es : PSlots U V) → b ≡ 0 → Moved means a ms mid cs ds → Moved means b mid rest ds es → Moved means a ms rest cs es
  moved-then_none a b ms mid rest cs ds es z s t = moved_still a ms mid rest cs ds es s (t.left ∙ ap (λ j. drop j mid) z) (t.still z)
