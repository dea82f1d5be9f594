-- What one level of a node is seen as.
use Rattle.std.specs.Prelude.{List, map}
use Rattle.node.specs.declared.node.Body.{Body}
use Rattle.node.specs.declared.node.Body.TheVariants.{Leaf, Inner}
use Rattle.node.specs.declared.node.Slot.{Slot}
use Rattle.node.specs.Pure.{PNode, leaf, inner, PSlot, PSlots, slots}

module _ {U V : Type 0} where
  abbrev pub see_slot : Slot U V → PSlot U V (PNode U V)
  see_slot s = record { lo = s.lo; msgs = s.pending.0; child = s.child.value }

  -- the slots of a node
  abbrev pub seen_slots : List (Slot U V) → PSlots U V
  seen_slots ss = slots (map see_slot ss)

  abbrev pub see : Body U V → PNode U V
  see (Leaf es) = leaf es.items
  see (Inner ss) = inner (seen_slots ss.items)
