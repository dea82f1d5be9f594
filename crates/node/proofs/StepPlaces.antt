-- The node at a place, as the walk to it reads the slots.
use Rattle.std.proofs.Common.{◌≡◌, ℕ, zero, suc, ◌<◌, ◌≤◌, List, [], ◌∷◌, length, get_or, drop, refl, ap, sym, ◌∙◌, arith, Option, None}
use Rattle.node.specs.declared.node.Slot.{Slot}
use Rattle.node.specs.See.{seen_slots}
use Rattle.node.specs.Lawful.{next_lo}
use Rattle.node.specs.Pure.{PNode, inner, PSlots, more}
use Rattle.node.specs.Site.{slots_at, end_at, end_of, slots_from}
use Rattle.node.proofs.At.{IsChild, IsChild-get, of_child-is, of_child-past}

module _ {U V : Type 0} where
  -- the slots from a number on begin with the one that the code reads
  pub slots_from-get : (xs : List (Slot U V)) (i : ℕ) (d : Slot U V) → i < length xs → slots_from i (seen_slots xs) ≡ more (get_or xs i d).lo (get_or xs i d).pending.0 (get_or xs i d).child.value (seen_slots (drop (suc i) xs))
  slots_from-get [] i d h = absurd (omega arith)
  slots_from-get (x ∷ xs) zero d h = refl
  slots_from-get (x ∷ xs) (suc i) d h = slots_from-get xs i d (omega arith)

  -- a slot ends where those after it begin
  pub end_of-drop : (xs : List (Slot U V)) (i : ℕ) (hi : Option (List ℕ)) → i < length xs → next_lo hi (seen_slots (drop (suc i) xs)) ≡ end_of hi (seen_slots xs) i
  end_of-drop [] i hi h = absurd (omega arith)
  end_of-drop (x ∷ xs) zero hi h = refl
  end_of-drop (x ∷ xs) (suc i) hi h = end_of-drop xs i hi (omega arith)

  -- where the node at a place ends, and its slots
  abbrev pub spot : List ℕ → Option (List ℕ) → PNode U V → Option (List ℕ) × Option (PSlots U V)
  spot p hi a = (end_at p hi a, slots_at p a)

  -- past the last slot no node stands
  pub slots_at-past : (q p : List ℕ) (i : ℕ) (xs : List (Slot U V)) (a : PNode U V) → q ≡ i ∷ p → inner (seen_slots xs) ≡ a → length xs ≤ i → slots_at q a ≡ None
  slots_at-past q p i xs a e ea h = ap (λ z. slots_at z a) e ∙ ap (slots_at (i ∷ p)) (sym ea) ∙ of_child-past None (slots_at p) xs i h

  -- the node at a place below a slot is the one at that place of its child
  spot-child : (p : List ℕ) (i : ℕ) (hi : Option (List ℕ)) (ss : PSlots U V) (c : PNode U V) → IsChild ss i c → spot (i ∷ p) hi (inner ss) ≡ spot p (end_of hi ss i) c
  spot-child p i hi ss c h = λ k. (of_child-is hi (end_at p (end_of hi ss i)) ss i c h k, of_child-is None (slots_at p) ss i c h k)

  -- the same in the words of the code
  pub spot-get : (q p : List ℕ) (i : ℕ) (hi e : Option (List ℕ)) (xs : List (Slot U V)) (s : Slot U V) (a : PNode U V) → q ≡ i ∷ p → inner (seen_slots xs) ≡ a → i < length xs → s ≡ get_or xs i s → end_of hi (seen_slots xs) i ≡ e → spot q hi a ≡ spot p e s.child.value
  spot-get q p i hi e xs s a eq ea h es ee = ap (λ z. spot z hi a) eq ∙ ap (λ z. spot (i ∷ p) hi z) (sym ea) ∙ spot-child p i hi (seen_slots xs) s.child.value (IsChild-get xs i s h es) ∙ ap (λ z. spot p z s.child.value) ee
