-- What the messages of a slot make of its child.
use Rattle.std.specs.Prelude.{ℕ, List, Option, Some, None}
use Rattle.message.specs.declared.msg.Msg.{Msg}
use Rattle.message.specs.Effects.{effects}
use Rattle.node.specs.declared.node.Slot.{Slot}
use Rattle.node.specs.Meaning.{value}

-- the key with its value, if it has one
abbrev pub pair_of : {V : Type 0} → List ℕ → Option V → Option (List ℕ × V)
pair_of k None = None
pair_of k (Some v) = Some (k, v)

module _ {U V : Type 0} where
  -- what messages that act on all keys of a stretch as on its first, `from`, make of the first pair below
  abbrev pub changed : (U → Option V → Option V) → List (Msg U V) → List ℕ → Option (List ℕ × V) → Option (List ℕ × V)
  changed means ms from None = pair_of from (effects means ms from None)
  changed means ms from (Some p) = pair_of p.0 (effects means ms from (Some p.1))

  -- the value at k of a slot: what its messages make of its child's
  abbrev pub slot_value : (U → Option V → Option V) → Slot U V → List ℕ → Option V
  slot_value means s k = effects means s.pending.0 k (value means s.child.value k)
