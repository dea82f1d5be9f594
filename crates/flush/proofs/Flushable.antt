-- Where a flush can be done.
use Rattle.std.proofs.Common.{◌≡◌, ℕ, ◌<◌, false, not, suc, List, [], ◌∷◌, length, get_or, drop, refl, ap, sym, ◌∙◌, subst, arith}
use Rattle.message.specs.declared.msg.Msg.{Msg}
use Rattle.node.specs.declared.node.Slot.{Slot}
use Rattle.node.specs.See.{seen_slots}
use Rattle.node.specs.Pure.{PNode, leaf, inner, PSlots, more, is_leaf}
use Rattle.node.specs.StepRows.{can_flush_inner, can_flush_leaf}
use Rattle.node.specs.Site.{slots_from}
use Rattle.node.proofs.StepPlaces.{slots_from-get}

module _ {U V : Type 0} where
  -- the slots from a number on, as the code finds the first of them
  pub seen_from : (i : ℕ) (xs : List (Slot U V)) (s : Slot U V) (m : Msg U V) (ms : List (Msg U V)) (c : PNode U V) → i < length xs → s ≡ get_or xs i s → s.pending.0 ≡ m ∷ ms → c ≡ s.child.value → slots_from i (seen_slots xs) ≡ more s.lo (m ∷ ms) c (seen_slots (drop (suc i) xs))
  seen_from i xs s m ms c h e ep ec = slots_from-get xs i s h ∙ ap (λ (x : Slot U V). more x.lo x.pending.0 x.child.value (seen_slots (drop (suc i) xs))) (sym e) ∙ (λ j. more s.lo (ep j) (sym ec j) (seen_slots (drop (suc i) xs)))

  -- a slot without messages is not flushed
  can_flush_inner-none : (lo : List ℕ) (ms : List (Msg U V)) (c : PNode U V) (a : PSlots U V) → length ms ≡ 0 → can_flush_inner (more lo ms c a) ≡ false
  can_flush_inner-none lo [] c a h = refl
  can_flush_inner-none lo (m ∷ ms) c a h = absurd (omega arith)

  -- one with messages is, unless a leaf is below
  can_flush_inner-some : (lo : List ℕ) (ms : List (Msg U V)) (c : PNode U V) (a : PSlots U V) → 0 < length ms → can_flush_inner (more lo ms c a) ≡ not (is_leaf c)
  can_flush_inner-some lo [] c a h = absurd (omega arith)
  can_flush_inner-some lo (m ∷ ms) (leaf es) a h = refl
  can_flush_inner-some lo (m ∷ ms) (inner cs) a h = refl

  -- likewise for the slot that the code reads, without messages
  pub can_flush_inner-empty : (xs : List (Slot U V)) (i : ℕ) (s : Slot U V) → i < length xs → s ≡ get_or xs i s → length s.pending.0 ≡ 0 → can_flush_inner (slots_from i (seen_slots xs)) ≡ false
  can_flush_inner-empty xs i s h e z =
      let x = get_or xs i s in
      ap can_flush_inner (slots_from-get xs i s h) ∙ can_flush_inner-none x.lo x.pending.0 x.child.value _ (sym (ap (λ (y : Slot U V). length y.pending.0) e) ∙ z)

  -- and with messages
  pub can_flush_inner-is : (xs : List (Slot U V)) (i : ℕ) (s : Slot U V) → i < length xs → s ≡ get_or xs i s → 0 < length s.pending.0 → can_flush_inner (slots_from i (seen_slots xs)) ≡ not (is_leaf s.child.value)
  can_flush_inner-is xs i s h e z =
      let x = get_or xs i s in
      let more_than : 0 < length x.pending.0 = subst (λ (y : Slot U V). 0 < length y.pending.0) e z in
      ap can_flush_inner (slots_from-get xs i s h) ∙ can_flush_inner-some x.lo x.pending.0 x.child.value _ more_than ∙ ap (λ (y : Slot U V). not (is_leaf y.child.value)) (sym e)

  -- ---- likewise for a flush into a leaf

  -- a slot without messages is not flushed
  can_flush_leaf-none : (lo : List ℕ) (ms : List (Msg U V)) (c : PNode U V) (a : PSlots U V) → length ms ≡ 0 → can_flush_leaf (more lo ms c a) ≡ false
  can_flush_leaf-none lo [] c a h = refl
  can_flush_leaf-none lo (m ∷ ms) c a h = absurd (omega arith)

  -- one with messages is, where a leaf is below
  can_flush_leaf-some : (lo : List ℕ) (ms : List (Msg U V)) (c : PNode U V) (a : PSlots U V) → 0 < length ms → can_flush_leaf (more lo ms c a) ≡ is_leaf c
  can_flush_leaf-some lo [] c a h = absurd (omega arith)
  can_flush_leaf-some lo (m ∷ ms) (leaf es) a h = refl
  can_flush_leaf-some lo (m ∷ ms) (inner cs) a h = refl

  -- likewise for the slot that the code reads, without messages
  pub can_flush_leaf-empty : (xs : List (Slot U V)) (i : ℕ) (s : Slot U V) → i < length xs → s ≡ get_or xs i s → length s.pending.0 ≡ 0 → can_flush_leaf (slots_from i (seen_slots xs)) ≡ false
  can_flush_leaf-empty xs i s h e z =
      let x = get_or xs i s in
      ap can_flush_leaf (slots_from-get xs i s h) ∙ can_flush_leaf-none x.lo x.pending.0 x.child.value _ (sym (ap (λ (y : Slot U V). length y.pending.0) e) ∙ z)

  -- and with messages
  pub can_flush_leaf-is : (xs : List (Slot U V)) (i : ℕ) (s : Slot U V) → i < length xs → s ≡ get_or xs i s → 0 < length s.pending.0 → can_flush_leaf (slots_from i (seen_slots xs)) ≡ is_leaf s.child.value
  can_flush_leaf-is xs i s h e z =
      let x = get_or xs i s in
      let more_than : 0 < length x.pending.0 = subst (λ (y : Slot U V). 0 < length y.pending.0) e z in
      ap can_flush_leaf (slots_from-get xs i s h) ∙ can_flush_leaf-some x.lo x.pending.0 x.child.value _ more_than ∙ ap (λ (y : Slot U V). is_leaf y.child.value) (sym e)
