-- The shape that every tree keeps.
use Rattle.std.specs.Prelude.{◌≡◌, ℕ, ◌+◌, ◌<◌, ◌≤◌, true, false, List, [], ◌∷◌, Option, Some, None, length, ⊤, IsTrue}
use Rattle.std.proofs.Common.{pred}
use Rattle.pathkey.specs.Keys.{is_below}
use Rattle.message.specs.declared.msg.Msg.{Msg}
use Rattle.message.specs.Ranges.{reaches, within}
use Rattle.message.specs.Effects.{any_touches}
use Rattle.node.specs.declared.shape.Shape.{Shape}
use Rattle.node.specs.Shapes.{is_shape}
use Rattle.node.specs.Pure.{PNode, leaf, inner, PSlots, none, more, PTree}

module _ {V : Type 0} where
  -- the first key, or the end where there is none
  abbrev pub first_key : Option (List ℕ) → List (List ℕ × V) → Option (List ℕ)
  first_key hi [] = hi
  first_key hi (e ∷ es) = Some e.0

  -- keys that rise strictly, from lo up to and without hi: each stands before the next
  abbrev pub Rises : List ℕ → Option (List ℕ) → List (List ℕ × V) → Type 0
  Rises lo hi [] = ⊤
  Rises lo hi (e ∷ es) = (reaches lo e.0 ≡ true) × (is_below e.0 (first_key hi es) ≡ true) × Rises e.0 hi es

module _ {U V : Type 0} where
  -- messages that touch only keys from lo up to and without hi
  abbrev pub TouchOnly : List ℕ → Option (List ℕ) → List (Msg U V) → Type 0
  TouchOnly lo hi ms = (k : List ℕ) → within lo hi k ≡ false → any_touches ms k ≡ false

  -- how many slots
  abbrev pub slot_count : PSlots U V → ℕ
  slot_count none = 0
  slot_count (more lo ms n ss) = slot_count ss + 1

  -- how many pending pieces
  abbrev pub pending : PSlots U V → ℕ
  pending none = 0
  pending (more lo ms n ss) = length ms + pending ss

  -- where the next slot begins, or the end of all
  abbrev pub next_lo : Option (List ℕ) → PSlots U V → Option (List ℕ)
  next_lo hi none = hi
  next_lo hi (more lo ms n ss) = Some lo

  -- there is a first slot, and it begins at lo
  abbrev pub starts_at : List ℕ → PSlots U V → Type 0
  starts_at lo none = ⊥
  starts_at lo (more l ms n ss) = l ≡ lo

  module _ (shape : Shape) where
    -- a node other than the root, h levels above the leaves, for keys from lo up to and without hi: at most so
    -- many slots, pending pieces or entries as the shape says, pivots and keys that rise, and messages
    -- that touch only keys of their slot's range
    abbrev mutual
      pub IsLawfulNode : PNode U V → ℕ → List ℕ → Option (List ℕ) → Type 0
      IsLawfulNode (leaf es) h lo hi = (h ≡ 0) × (length es ≤ shape.leaf) × Rises lo hi es
      IsLawfulNode (inner ss) h lo hi = (0 < h) × (slot_count ss ≤ shape.fanout) × (pending ss ≤ shape.pending) × starts_at lo ss × AreLawfulSlots ss h hi

      pub AreLawfulSlots : PSlots U V → ℕ → Option (List ℕ) → Type 0
      AreLawfulSlots none h hi = ⊤
      AreLawfulSlots (more lo ms n ss) h hi = (is_below lo (next_lo hi ss) ≡ true) × TouchOnly lo (next_lo hi ss) ms × IsLawfulNode n (pred h) lo (next_lo hi ss) × AreLawfulSlots ss h hi

    -- the root: an inner node with 1 to 16 inner levels in all; its pending lists have no limit
    abbrev pub IsLawfulRoot : PNode U V → ℕ → Type 0
    IsLawfulRoot (leaf es) h = ⊥
    IsLawfulRoot (inner ss) h = (0 < h) × (h ≤ 16) × (slot_count ss ≤ shape.fanout) × starts_at [] ss × AreLawfulSlots ss h None

  -- a tree of an allowed shape whose leaves are equally deep
  pub record IsLawful (t : PTree U V) : Type 0 where
    pub shape : IsTrue (is_shape t.shape)
    pub levels : ℕ
    pub root : IsLawfulRoot t.shape t.root levels
