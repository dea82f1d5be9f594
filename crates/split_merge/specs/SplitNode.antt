-- An inner node cut in two.
use Rattle.std.specs.Prelude.{◌≡◌, ◌≤◌, false, Option, Some, None}
use Rattle.node.specs.Pure.{PNode, PSlots, inner}
use Rattle.node.specs.Lawful.{slot_count}
use Rattle.node.specs.StepRows.{is_divisible}
use Rattle.node.specs.Site.{joined}
use Rattle.node.specs.Sinks.{first_lo}
use Rattle.split_merge.specs.declared.split.SplitNode.{SplitNode}

-- the halves are the node n cut before one of its slots, which begins at the pivot
pub record AreHalves {U V : Type 0} (n : PNode U V) (p : SplitNode U V) : Type 0 where
  pub left : PSlots U V
  pub right : PSlots U V
  pub some_left : 1 ≤ slot_count left
  pub some_right : 1 ≤ slot_count right
  pub was : n ≡ inner (joined left right)
  pub left_is : p.left.value ≡ inner left
  pub right_is : p.right.value ≡ inner right
  pub pivot_is : p.pivot ≡ first_lo right

-- the two halves, or none where the node cannot be cut
abbrev pub HalvesOf : {U V : Type 0} → PNode U V → Option (SplitNode U V) → Type 0
HalvesOf n None = is_divisible n ≡ false
HalvesOf n (Some p) = AreHalves n p
