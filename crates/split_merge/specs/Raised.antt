-- A new root above the old one.
use Rattle.std.specs.Prelude.{◌≡◌, ◌<◌, ◌≤◌, true, false, List, [], ◌++◌, Option}
use Rattle.message.specs.declared.msg.Msg.{Msg}
use Rattle.message.specs.Effects.{Takes}
use Rattle.node.specs.declared.node.Slot.{Slot}
use Rattle.node.specs.declared.step.StepReply.{StepReply}
use Rattle.node.specs.declared.step.StepReply.TheVariants.{Did, NotThere, NoRoom, NoMemory}
use Rattle.node.specs.Pure.{PNode, leaf, inner, PSlots, none, more, PSlot}
use Rattle.node.specs.RootSteps.{levels, has_one_slot}
use Rattle.node.specs.StepRows.{emptied}

module _ {U V : Type 0} where
  -- the slot seen without its messages
  abbrev pub hollow : Slot U V → PSlot U V (PNode U V)
  hollow s = record { lo = s.lo; msgs = []; child = s.child.value }

  -- all messages, slot by slot
  abbrev pub all_msgs : PSlots U V → List (Msg U V)
  all_msgs none = []
  all_msgs (more lo ms n ss) = ms ++ all_msgs ss

module _ {U V : Type 0} (means : U → Option V → Option V) where
  -- the node has one slot, which holds the messages of the slots below it
  pub record IsAbove (slots : PSlots U V) (node : PNode U V) : Type 0 where
    pub msgs : List (Msg U V)
    pub taken : Takes means [] (all_msgs slots) msgs
    pub is : node ≡ inner (more [] msgs (inner (emptied slots)) none)

  -- the root can go up, and the node stands above it
  abbrev pub Raised : PNode U V → PNode U V → Type 0
  Raised (leaf es) node = ⊥
  Raised (inner slots) node = (has_one_slot (inner slots) ≡ false) × (levels (inner slots) < 16) × IsAbove slots node

  -- why the root cannot go up
  abbrev pub Refused : StepReply → PNode U V → Type 0
  Refused (Did n) root = ⊥
  Refused NotThere root = has_one_slot root ≡ true
  Refused NoRoom root = (has_one_slot root ≡ false) × (16 ≤ levels root)
  Refused NoMemory root = (has_one_slot root ≡ false) × (levels root < 16)
