-- What becomes of one slot whose subtree goes at once.
use Rattle.std.specs.Prelude.{◌≡◌, ℕ, List, [], drop}
use Rattle.message.specs.declared.msg.Msg.{Msg}
use Rattle.node.specs.declared.step.StepReply.{StepReply}
use Rattle.node.specs.declared.step.StepReply.TheVariants.{Did, NotThere, NoRoom, NoMemory}
use Rattle.node.specs.Pure.{PNode, leaf, inner, none, more}

module _ {U V : Type 0} where
  -- an empty leaf under so many nodes, each with one slot that begins at lo, as stand above the node's first leaf
  abbrev pub bare : List ℕ → PNode U V → PNode U V
  bare lo (leaf es) = leaf []
  bare lo (inner none) = inner (more lo [] (leaf []) none)
  bare lo (inner (more l ms n ss)) = inner (more lo [] (bare lo n) none)

  -- what the reply of a drop says of the messages and the child, before and after, of a slot that begins at lo
  abbrev pub Swept : StepReply → List ℕ → List (Msg U V) → List (Msg U V) → PNode U V → PNode U V → Type 0
  Swept (Did n) lo ms ns c d = (n ≡ 1) × (ns ≡ drop 1 ms) × (d ≡ bare lo c)
  Swept NotThere lo ms ns c d = (ns ≡ ms) × (d ≡ c) × (ms ≡ [])
  Swept NoRoom lo ms ns c d = ⊥
  Swept NoMemory lo ms ns c d = (ns ≡ ms) × (d ≡ c)
