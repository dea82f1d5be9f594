-- What a node means at a key: a query applies the pending messages that it meets on its way down
-- (Bender et al., ;login: 2015).
use Rattle.std.specs.Prelude.{ℕ, ◌+◌, Bool, false, if◌then◌else◌, List, [], ◌∷◌, Option, Some, None}
use Rattle.pathkey.specs.Order.{same}
use Rattle.message.specs.Ranges.{reaches}
use Rattle.message.specs.Effects.{effects}
use Rattle.node.specs.Pure.{PNode, leaf, inner, PSlots, none, more}

module _ {V : Type 0} where
  -- the value of the entry at k
  abbrev pub lookup : List (List ℕ × V) → List ℕ → Option V
  lookup [] k = None
  lookup (e ∷ es) k = if same e.0 k then Some e.1 else lookup es k

module _ {U V : Type 0} where
  -- the first of these slots begins at or before k
  abbrev pub begins_by : PSlots U V → List ℕ → Bool
  begins_by none k = false
  begins_by (more lo ms n ss) k = reaches lo k

  -- the number of the slot whose range holds k
  abbrev pub slot_number : PSlots U V → List ℕ → ℕ
  slot_number none k = 0
  slot_number (more lo ms n ss) k = if begins_by ss k then slot_number ss k + 1 else 0

  -- likewise, if one does
  abbrev pub holder : PSlots U V → List ℕ → Option ℕ
  holder ss k = if begins_by ss k then Some (slot_number ss k) else None

module _ {U V : Type 0} (means : U → Option V → Option V) where
  -- the value at k: a leaf's entry; or what the messages of the slot that holds k make of its child's value
  abbrev mutual
    pub value : PNode U V → List ℕ → Option V
    value (leaf es) k = lookup es k
    value (inner ss) k = slots_value ss k

    pub slots_value : PSlots U V → List ℕ → Option V
    slots_value none k = None
    slots_value (more lo ms n ss) k = if begins_by ss k then slots_value ss k else effects means ms k (value n k)
