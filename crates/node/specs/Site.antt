-- The slots of the node at a place, and the tree with other slots there.
use Rattle.std.specs.Prelude.{◌≡◌, ℕ, List, [], ◌∷◌, Option, Some, None}
use Rattle.std.proofs.Common.{zero, suc}
use Rattle.node.specs.Pure.{PNode, leaf, inner, PSlots, none, more}
use Rattle.node.specs.Lawful.{slot_count, next_lo}

module _ {U V : Type 0} where
  -- what f says of the child with this number, or d where there is none
  abbrev pub of_child : {X : Type 0} → X → (PNode U V → X) → PSlots U V → ℕ → X
  of_child d f none i = d
  of_child d f (more lo ms n ss) zero = f n
  of_child d f (more lo ms n ss) (suc i) = of_child d f ss i

  -- the same slots with f of the child with this number in its place
  abbrev pub child_changed : (PNode U V → PNode U V) → PSlots U V → ℕ → PSlots U V
  child_changed f none i = none
  child_changed f (more lo ms n ss) zero = more lo ms (f n) ss
  child_changed f (more lo ms n ss) (suc i) = more lo ms n (child_changed f ss i)

  -- the slots of the node at the place, where an inner node stands there
  abbrev pub slots_at : List ℕ → PNode U V → Option (PSlots U V)
  slots_at p (leaf es) = None
  slots_at [] (inner ss) = Some ss
  slots_at (i ∷ p) (inner ss) = of_child None (slots_at p) ss i

  -- the tree with these slots for those of the node at the place
  abbrev pub with_slots : List ℕ → PSlots U V → PNode U V → PNode U V
  with_slots p new (leaf es) = leaf es
  with_slots [] new (inner ss) = inner new
  with_slots (i ∷ p) new (inner ss) = inner (child_changed (with_slots p new) ss i)

  -- the end of the slot with this number; hi is that of the last
  abbrev pub end_of : Option (List ℕ) → PSlots U V → ℕ → Option (List ℕ)
  end_of hi none i = hi
  end_of hi (more lo ms n ss) zero = next_lo hi ss
  end_of hi (more lo ms n ss) (suc i) = end_of hi ss i

  -- the end of the node at the place, where hi is that of the whole
  abbrev pub end_at : List ℕ → Option (List ℕ) → PNode U V → Option (List ℕ)
  end_at p hi (leaf es) = hi
  end_at [] hi (inner ss) = hi
  end_at (i ∷ p) hi (inner ss) = of_child hi (end_at p (end_of hi ss i)) ss i

  -- the slots from this number on
  abbrev pub slots_from : ℕ → PSlots U V → PSlots U V
  slots_from i none = none
  slots_from zero (more lo ms n ss) = more lo ms n ss
  slots_from (suc i) (more lo ms n ss) = slots_from i ss

  -- these slots, then those
  abbrev pub joined : PSlots U V → PSlots U V → PSlots U V
  joined none ts = ts
  joined (more lo ms n ss) ts = more lo ms n (joined ss ts)

-- b is a but for the w slots from number i on, in whose place others stand, as R says of their end, of them and of those
pub record Spliced {U V : Type 0} (R : Option (List ℕ) → PSlots U V → PSlots U V → Type 0) (i w : ℕ) (hi : Option (List ℕ)) (a b : PSlots U V) : Type 0 where
  pub before : PSlots U V
  pub old : PSlots U V
  pub new : PSlots U V
  pub after : PSlots U V
  pub was : a ≡ joined before (joined old after)
  pub is : b ≡ joined before (joined new after)
  pub number : slot_count before ≡ i
  pub width : slot_count old ≡ w
  pub changed : R (next_lo hi after) old new
