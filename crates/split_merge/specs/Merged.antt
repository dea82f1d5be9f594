-- Two slots made one.
use Rattle.std.specs.Prelude.{◌≡◌, ℕ, Bool, true, false, ◌++◌, Option}
use Rattle.message.specs.Effects.{Takes}
use Rattle.node.specs.declared.node.Slot.{Slot}
use Rattle.node.specs.declared.shape.Shape.{Shape}
use Rattle.node.specs.declared.step.StepReply.{StepReply}
use Rattle.node.specs.declared.step.StepKind.TheVariants.{MergeLeaves, MergeInner}
use Rattle.node.specs.Pure.{PNode, PSlots, leaf, inner}
use Rattle.node.specs.Site.{joined}
use Rattle.node.specs.Steps.{Replies}

module _ {U V : Type 0} where
  -- two nodes are of one kind
  abbrev pub are_alike : PNode U V → PNode U V → Bool
  are_alike (leaf es) (leaf fs) = true
  are_alike (leaf es) (inner ds) = false
  are_alike (inner cs) (leaf fs) = false
  are_alike (inner cs) (inner ds) = true

  -- what two nodes of one kind hold, end to end
  abbrev pub both : PNode U V → PNode U V → PNode U V
  both (leaf es) (leaf fs) = leaf (es ++ fs)
  both (leaf es) (inner ds) = leaf es
  both (inner cs) (leaf fs) = inner cs
  both (inner cs) (inner ds) = inner (joined cs ds)

-- the slot m begins where l does, over what both children hold, and its list has taken that of r behind its own
pub record IsJoined {U V : Type 0} (means : U → Option V → Option V) (l r m : Slot U V) : Type 0 where
  pub same_lo : m.lo ≡ l.lo
  pub taken : Takes means l.pending.0 r.pending.0 m.pending.0
  pub child : m.child.value ≡ both l.child.value r.child.value

-- what the reply of a merge says of the node's slots before and after, over leaves and over inner nodes
abbrev pub MergeReplies : {U V : Type 0} → (U → Option V → Option V) → Shape → Bool → ℕ → StepReply → PSlots U V → PSlots U V → Type 0
MergeReplies means shape root i r a b = Replies means MergeLeaves shape root i r a b × Replies means MergeInner shape root i r a b
