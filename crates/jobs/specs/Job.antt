-- What a job and what was built of it keep.
use Rattle.std.specs.Prelude.{◌≡◌, ℕ, ◌+◌, ◌≤◌, ◌<◌, false, List, Option, length, IsTrue}
use Rattle.pathkey.specs.declared.range.KeyRange.{KeyRange}
use Rattle.message.specs.declared.msg.Msg.{Msg}
use Rattle.node.specs.declared.shape.Shape.{Shape}
use Rattle.node.specs.Lawful.{IsLawfulNode, TouchOnly, pending}
use Rattle.node.specs.Shapes.{is_shape}
use Rattle.node.specs.Pure.{PNode, leaf, inner, is_leaf}
use Rattle.node.specs.StepRows.{piece_count}

-- a job: its ticket, the tree's shape, the slot's range, the messages taken, the oldest first, and the child
pub record PJob (U V : Type 0) : Type 0 where
  pub ticket : ℕ
  pub shape : Shape
  pub range : KeyRange
  pub msgs : List (Msg U V)
  pub child : PNode U V

-- what was built of it: a subtree, and how many messages it has in it
pub record PDone (U V : Type 0) : Type 0 where
  pub ticket : ℕ
  pub shape : Shape
  pub range : KeyRange
  pub count : ℕ
  pub child : PNode U V

module _ {U V : Type 0} where
  -- the messages' pieces and what waits in the slots of an inner node are no more than `most`
  abbrev pub FitBelow : ℕ → List (Msg U V) → PNode U V → Type 0
  FitBelow most ms (leaf es) = ⊥
  FitBelow most ms (inner cs) = pending cs + piece_count ms cs ≤ most

  -- a node other than the root, lawful somewhere up to hi
  abbrev pub EndsLawfully : Shape → Option (List ℕ) → PNode U V → Type 0
  EndsLawfully shape hi n = (h : ℕ) × (lo : List ℕ) × IsLawfulNode shape n h lo hi

  -- an inner node other than the root, lawful in the range
  pub record IsSubtree (shape : Shape) (range : KeyRange) (child : PNode U V) : Type 0 where
    pub inner : is_leaf child ≡ false
    pub height : ℕ
    pub lawful : IsLawfulNode shape child height range.lo range.hi

  -- such a node of a tree of an allowed shape, and messages of its range that have room in its slots
  pub record IsJob (shape : Shape) (range : KeyRange) (msgs : List (Msg U V)) (child : PNode U V) : Type 0 where
    pub allowed : IsTrue (is_shape shape)
    pub subtree : IsSubtree shape range child
    pub some : 1 ≤ length msgs
    pub few : length msgs < 65536
    pub only : TouchOnly range.lo range.hi msgs
    pub fit : FitBelow shape.pending msgs child
