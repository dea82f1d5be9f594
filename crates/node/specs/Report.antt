-- How large a tree is.
use Rattle.std.specs.Prelude.{ℕ, ◌+◌, length}
use Rattle.node.specs.declared.report.ShapeReport.{ShapeReport}
use Rattle.node.specs.declared.report.Quantity.{Quantity}
use Rattle.node.specs.declared.report.Quantity.TheVariants.{Slots, Pending, Entries}
use Rattle.node.specs.Pure.{PNode, leaf, inner, PSlots, none, more, PTree}
use Rattle.node.specs.Lawful.{slot_count, pending}
use Rattle.node.specs.RootSteps.{levels}

module _ {U V : Type 0} where
  -- how much the node itself has of what is counted
  abbrev pub own : Quantity → PNode U V → ℕ
  own Slots (leaf es) = 0
  own Slots (inner ss) = slot_count ss
  own Pending (leaf es) = 0
  own Pending (inner ss) = pending ss
  own Entries (leaf es) = length es
  own Entries (inner ss) = 0

  -- how many slots the node has
  abbrev pub width : PNode U V → ℕ
  width (leaf es) = 0
  width (inner ss) = slot_count ss

  -- how much the node and all nodes below it have
  abbrev mutual
    pub total : Quantity → PNode U V → ℕ
    total q (leaf es) = own q (leaf es)
    total q (inner ss) = own q (inner ss) + total_below q ss

    pub total_below : Quantity → PSlots U V → ℕ
    total_below q none = 0
    total_below q (more lo ms n ss) = total q n + total_below q ss

  -- a tree's levels of inner nodes, its slots, pending pieces and entries
  abbrev pub report_of : PTree U V → ShapeReport
  report_of t = record { levels = levels t.root; slots = total Slots t.root; pending = total Pending t.root; entries = total Entries t.root }
