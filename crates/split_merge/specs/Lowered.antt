-- The only child in the root's place.
use Rattle.std.specs.Prelude.{◌≡◌, true, false, Option}
use Rattle.node.specs.declared.step.StepReply.{StepReply}
use Rattle.node.specs.declared.step.StepReply.TheVariants.{Did, NotThere, NoRoom, NoMemory}
use Rattle.node.specs.Appended.{IsAppended}
use Rattle.node.specs.Pure.{PNode, inner, none, more}
use Rattle.node.specs.RootSteps.{has_one_inner}

module _ {U V : Type 0} (means : U → Option V → Option V) where
  -- the root has one slot, over an inner node, and the node is that one with the slot's messages appended
  abbrev pub Lowered : PNode U V → PNode U V → Type 0
  Lowered (inner (more lo ms (inner below) none)) node = IsAppended means ms (inner below) node
  Lowered _ node = ⊥

module _ {U V : Type 0} where
  -- why the root cannot go down
  abbrev pub Stays : StepReply → PNode U V → Type 0
  Stays (Did n) root = ⊥
  Stays NotThere root = has_one_inner root ≡ false
  Stays NoRoom root = ⊥
  Stays NoMemory root = has_one_inner root ≡ true
