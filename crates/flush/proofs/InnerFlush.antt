-- A flush of one slot into an inner node, in the words of its row.
use Rattle.std.proofs.Common.{◌≡◌, ℕ, suc, ◌+◌, ◌<◌, ◌≤◌, Bool, List, [], ◌∷◌, length, get_or, take, drop, refl, ap, sym, ◌∙◌, subst, arith, Option, None, pred, length-drop}
use Rattle.std.proofs.Math.ListN.{set}
use Rattle.pathkey.specs.Keys.{is_below}
use Rattle.message.specs.declared.msg.Msg.{Msg}
use Rattle.message.specs.Ranges.{reaches}
use Rattle.message.proofs.KeyOrder.{both}
use Rattle.node.specs.declared.node.Slot.{Slot}
use Rattle.node.specs.declared.shape.Shape.{Shape}
use Rattle.node.specs.declared.step.StepReply.{StepReply}
use Rattle.node.specs.declared.step.StepReply.TheVariants.{Did, NotThere, NoRoom, NoMemory}
use Rattle.node.specs.declared.step.StepKind.TheVariants.{FlushInner}
use Rattle.node.specs.See.{seen_slots}
use Rattle.node.specs.Pure.{PNode, leaf, inner, PSlots, none, more}
use Rattle.node.specs.Lawful.{IsLawfulNode, AreLawfulSlots, slot_count, pending, next_lo}
use Rattle.node.specs.Appended.{batches_by_slot, HaveTaken}
use Rattle.node.specs.Site.{joined, slots_from}
use Rattle.node.specs.Sinks.{Sinks}
use Rattle.node.specs.StepRows.{piece_count, IsFullBelow, can_flush_inner}
use Rattle.node.specs.Steps.{Formed, Replies}
use Rattle.node.proofs.Appending.{value-taken, slot_count-taken, starts_at-taken}
use Rattle.node.proofs.Sinking.{touch_only-take, touch_only-drop, lawful-sunk, pending-taken, emptied-taken}
use Rattle.node.proofs.StepDone.{replies_did}
use Rattle.node.proofs.Splice.{slots-split, slots-set_split, slot_count-take, slots_from-joined}
use Rattle.flush.specs.Sunk.{Sunk, left}
use Rattle.flush.proofs.Flushable.{seen_from}
use Rattle.node.proofs.StepPlaces.{slots_from-get}

module _ {U V : Type 0} where
  module _ (means : U → Option V → Option V) where
    -- messages that the child has taken have sunk
    sinks : (S : Shape) (n h : ℕ) (lo : List ℕ) (e : Option (List ℕ)) (ms : List (Msg U V)) (cs ds : PSlots U V) → HaveTaken means cs (batches_by_slot None (take n ms) cs) ds → IsLawfulNode S (inner cs) h lo e → Sinks means n e (more lo ms (inner cs) none) (more lo (drop n ms) (inner ds) none)
    sinks S n h lo e ms none ds t l = absurd l.3
    sinks S n h lo e ms (more lp o c ss) ds t l = record {
      starts = refl;
      below = λ k w. value-taken means None (take n ms) lp o c ss ds k t (ap (λ z. reaches z k) l.3 ∙ (both (reaches lo k) (is_below k e) w).0) refl;
      above = λ k v w. refl;
    }

    -- the slot and its child stay lawful
    lawful_grown : (S : Shape) (n h : ℕ) (lo : List ℕ) (e : Option (List ℕ)) (ms : List (Msg U V)) (cs ds : PSlots U V) → HaveTaken means cs (batches_by_slot None (take n ms) cs) ds → pending ds ≤ S.pending → AreLawfulSlots S (more lo ms (inner cs) none) h e → AreLawfulSlots S (more lo (drop n ms) (inner ds) none) h e
    lawful_grown S n h lo e ms cs ds t fits l =
        let c = l.2 in
        let grown : AreLawfulSlots S ds (pred h) e = lawful-sunk means S (pred h) lo e (take n ms) cs ds (touch_only-take n lo e ms l.1) t c.4 in
        (l.0, touch_only-drop n lo e ms l.1, (c.0, subst (λ z. z ≤ S.fanout) (sym (slot_count-taken means None (take n ms) cs ds t)) c.1, fits, starts_at-taken means lo None (take n ms) cs ds t c.3, grown), tt)

  -- what can be done at a slot rests on its messages and its child
  same_there : (lo lp : List ℕ) (ms : List (Msg U V)) (c : PNode U V) (a x : PSlots U V) → can_flush_inner (more lo ms c a) ≡ can_flush_inner (more lp ms c x)
  same_there lo lp [] c a x = refl
  same_there lo lp (m ∷ ms) (leaf es) a x = refl
  same_there lo lp (m ∷ ms) (inner cs) a x = refl

  -- and so does whether there is room
  same_full : (P : ℕ) (lo lp : List ℕ) (ms : List (Msg U V)) (c : PNode U V) (a x : PSlots U V) → IsFullBelow P (more lo ms c a) → IsFullBelow P (more lp ms c x)
  same_full P lo lp [] c a x h = h
  same_full P lo lp (m ∷ ms) (leaf es) a x h = h
  same_full P lo lp (m ∷ ms) (inner cs) a x h = h

  module _ (means : U → Option V → Option V) (shape : Shape) (root : Bool) (i : ℕ) (b a : PSlots U V) (lo : List ℕ) (at_i : slot_count b ≡ i) where
    -- what became of the slot
    sunk : (n : ℕ) (ms : List (Msg U V)) (cs ds : PSlots U V) → 1 ≤ n → n ≤ length ms → HaveTaken means cs (batches_by_slot None (take n ms) cs) ds → pending ds ≤ shape.pending → (h : ℕ) (e : Option (List ℕ)) → AreLawfulSlots shape (more lo ms (inner cs) none) h e → Sinks means n e (more lo ms (inner cs) none) (more lo (drop n ms) (inner ds) none) × Formed means FlushInner shape n (more lo ms (inner cs) none) (more lo (drop n ms) (inner ds) none) × AreLawfulSlots shape (more lo (drop n ms) (inner ds) none) h e
    sunk n ms cs ds one has t fits h e l = (
      sinks means shape n (pred h) lo e ms cs ds t l.2,
      record { lo = lo; msgs = ms; below = cs; grown = ds; some = one; has = has; was = refl; is = refl; same_slots = emptied-taken means (take n ms) cs ds t; pieces_grow = pending-taken means (take n ms) cs ds t },
      lawful_grown means shape n h lo e ms cs ds t fits l,
    )

    -- what a flush that is done has done to the node
    did : (n : ℕ) (ms : List (Msg U V)) (cs ds : PSlots U V) → 1 ≤ n → n ≤ length ms → HaveTaken means cs (batches_by_slot None (take n ms) cs) ds → pending ds ≤ shape.pending → Replies means FlushInner shape root i (Did n) (joined b (more lo ms (inner cs) a)) (joined b (more lo (drop n ms) (inner ds) a))
    did n ms cs ds one has t fits = replies_did means FlushInner shape root i n b (more lo ms (inner cs) none) (more lo (drop n ms) (inner ds) none) a at_i refl tt tt refl (λ z. z) (λ r z. omega (arith, z, length-drop n ms)) (λ h hi l able. sunk n ms cs ds one has t fits h (next_lo hi a) l) (λ z. z)

    -- what each reply says of the node
    pub replies : (r : StepReply) (ms : List (Msg U V)) (c d : PNode U V) → Sunk means shape.pending r ms c d → Replies means FlushInner shape root i r (joined b (more lo ms c a)) (joined b (more lo (left r ms) d a))
    replies (Did n) ms (leaf es) d q = absurd q.2
    replies (Did n) ms (inner cs) (leaf es) q = absurd q.2
    replies (Did n) ms (inner cs) (inner ds) q = did n ms cs ds q.0 q.1 q.2.0 q.2.1
    replies NotThere ms c d q = (ap (λ z. joined b (more lo ms z a)) q.0, λ hi. ap can_flush_inner (slots_from-joined i b (more lo ms c a) at_i) ∙ same_there lo [] ms c a none ∙ q.1)
    replies NoRoom ms c d q = (ap (λ z. joined b (more lo ms z a)) q.0, subst (λ z. IsFullBelow shape.pending z) (sym (slots_from-joined i b (more lo ms c a) at_i)) (same_full shape.pending [] lo ms c none a q.1))
    replies NoMemory ms c d q = ap (λ z. joined b (more lo ms z a)) q

  -- likewise for the slots as the code writes them
  pub flushed : (means : U → Option V → Option V) (shape : Shape) (root : Bool) (i : ℕ) (xs : List (Slot U V)) (s t : Slot U V) (r : StepReply) → i < length xs → s ≡ get_or xs i s → t.lo ≡ s.lo → t.pending.0 ≡ left r s.pending.0 → Sunk means shape.pending r s.pending.0 s.child.value t.child.value → Replies means FlushInner shape root i r (seen_slots xs) (seen_slots (set xs i t))
  flushed means shape root i xs s t r h e el ep q =
      let b = seen_slots (take i xs) in
      let a = seen_slots (drop (suc i) xs) in
      let was : seen_slots xs ≡ joined b (more s.lo s.pending.0 s.child.value a) = slots-split xs i s h ∙ ap (λ (x : Slot U V). joined b (more x.lo x.pending.0 x.child.value a)) (sym e) in
      let is : seen_slots (set xs i t) ≡ joined b (more s.lo (left r s.pending.0) t.child.value a) = slots-set_split xs i t h ∙ (λ j. joined b (more (el j) (ep j) t.child.value a)) in
      let core = replies means shape root i b a s.lo (slot_count-take xs i (omega arith)) r s.pending.0 s.child.value t.child.value q in
      subst (λ z. Replies means FlushInner shape root i r z (seen_slots (set xs i t))) (sym was) (subst (λ z. Replies means FlushInner shape root i r (joined b (more s.lo s.pending.0 s.child.value a)) z) (sym is) core)

  -- where the code finds too many pieces for the child
  pub too_many : (P i : ℕ) (xs : List (Slot U V)) (s : Slot U V) (m : Msg U V) (ms : List (Msg U V)) (cs : PSlots U V) → i < length xs → s ≡ get_or xs i s → s.pending.0 ≡ m ∷ ms → inner cs ≡ s.child.value → P < pending cs + piece_count (m ∷ []) cs → IsFullBelow P (slots_from i (seen_slots xs))
  too_many P i xs s m ms cs h e ep ec l = subst (IsFullBelow P) (sym (seen_from i xs s m ms (inner cs) h e ep ec)) l

  -- where it does not
  pub not_too_many : (P i : ℕ) (xs : List (Slot U V)) (s : Slot U V) (m : Msg U V) (ms : List (Msg U V)) (cs : PSlots U V) → i < length xs → s ≡ get_or xs i s → s.pending.0 ≡ m ∷ ms → inner cs ≡ s.child.value → pending cs + piece_count (m ∷ []) cs ≤ P → IsFullBelow P (slots_from i (seen_slots xs)) → ⊥
  not_too_many P i xs s m ms cs h e ep ec l full = let f : P < pending cs + piece_count (m ∷ []) cs = subst (IsFullBelow P) (seen_from i xs s m ms (inner cs) h e ep ec) full in omega (arith, f, l)

  -- nor where the slot cannot be flushed into an inner node
  pub never_full : (P i : ℕ) (xs : List (Slot U V)) (s : Slot U V) → i < length xs → s ≡ get_or xs i s → ((m : Msg U V) (ms : List (Msg U V)) (cs : PSlots U V) → s.pending.0 ≡ m ∷ ms → inner cs ≡ s.child.value → ⊥) → IsFullBelow P (slots_from i (seen_slots xs)) → ⊥
  never_full P i xs s h e f full = never s.pending.0 s.child.value refl refl (subst (IsFullBelow P) (slots_from-get xs i s h ∙ ap (λ (x : Slot U V). more x.lo x.pending.0 x.child.value (seen_slots (drop (suc i) xs))) (sym e)) full)
    where
      never : (ms : List (Msg U V)) (c : PNode U V) → s.pending.0 ≡ ms → c ≡ s.child.value → IsFullBelow P (more s.lo ms c (seen_slots (drop (suc i) xs))) → ⊥
      never [] c ep ec g = g
      never (m ∷ ms) (leaf es) ep ec g = g
      never (m ∷ ms) (inner cs) ep ec g = f m ms cs ep ec
