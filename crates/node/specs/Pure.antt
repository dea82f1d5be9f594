-- The tree as contracts see it: no pointer and no capacity stands in it.
use Rattle.std.specs.Prelude.{ℕ, ◌+◌, max, List, [], ◌∷◌, Bool, true, false}
use Rattle.message.specs.declared.msg.Msg.{Msg}
use Rattle.node.specs.declared.shape.Shape.{Shape}

-- a slot: where its range begins (its pivot), its pending messages, oldest first, and its child
pub record PSlot (U V N : Type 0) : Type 0 where
  pub lo : List ℕ
  pub msgs : List (Msg U V)
  pub child : N

-- a leaf of entries, or an inner node of slots; U is the type of updates, V that of values
mutual
  pub data PNode (U V : Type 0) : Type 0 where
    leaf : List (List ℕ × V) → PNode U V
    inner : PSlots U V → PNode U V

  pub data PSlots (U V : Type 0) : Type 0 where
    none : PSlots U V
    more : List ℕ → List (Msg U V) → PNode U V → PSlots U V → PSlots U V

module _ {U V : Type 0} where
  -- the slots of a list
  abbrev pub slots : List (PSlot U V (PNode U V)) → PSlots U V
  slots [] = none
  slots (s ∷ ss) = more s.lo s.msgs s.child (slots ss)

  abbrev pub is_leaf : PNode U V → Bool
  is_leaf (leaf es) = true
  is_leaf (inner ss) = false

  -- how many levels of nodes
  abbrev mutual
    pub depth : PNode U V → ℕ
    depth (leaf es) = 1
    depth (inner ss) = depths ss + 1

    pub depths : PSlots U V → ℕ
    depths none = 0
    depths (more lo ms n ss) = max (depth n) (depths ss)

-- a tree: its shape, and its root
pub record PTree (U V : Type 0) : Type 0 where
  pub shape : Shape
  pub root : PNode U V

module _ {U V : Type 0} where
  -- a root with one slot over one empty leaf
  abbrev pub empty_root : PNode U V
  empty_root = inner (more [] [] (leaf []) none)
