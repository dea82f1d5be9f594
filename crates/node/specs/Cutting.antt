-- A slot cut in two at a pivot.
use Rattle.std.specs.Prelude.{◌≡◌, ℕ, List, [], Option, Some, None, drop}
use Rattle.message.specs.Cuts.{pieces}
use Rattle.message.specs.Effects.{Takes}
use Rattle.node.specs.declared.node.Slot.{Slot}
use Rattle.node.specs.Pure.{PNode}

-- the slots l and r are the slot s cut at the pivot, without its `consumed` oldest messages, over the children left and right
pub record IsCutAt {U V : Type 0} (means : U → Option V → Option V) (consumed : ℕ) (pivot : List ℕ) (left right : PNode U V) (s l r : Slot U V) : Type 0 where
  pub left_lo : l.lo ≡ s.lo
  pub right_lo : r.lo ≡ pivot
  pub left_is : l.child.value ≡ left
  pub right_is : r.child.value ≡ right
  pub left_msgs : Takes means [] (pieces s.lo (Some pivot) (drop consumed s.pending.0)) l.pending.0
  pub right_msgs : Takes means [] (pieces pivot None (drop consumed s.pending.0)) r.pending.0
