-- A tree with its marks.
use Rattle.std.specs.Prelude.{◌≡◌, ℕ, ◌+◌, ◌≤◌, ◌==◌, if◌then◌else◌, Bool, false, List, [], ◌∷◌, Option, Some, None, length, ⊤}
use Rattle.pathkey.specs.Order.{same}
use Rattle.message.specs.declared.msg.Msg.{Msg}
use Rattle.node.specs.Pure.{PNode, leaf, inner, PSlots, none, more, is_leaf, PTree}
use Rattle.node.specs.Grafts.{AtRootSlot}
use Rattle.jobs.specs.declared.mark.Mark.{Mark}
use Rattle.jobs.specs.Content.{Content, HasContent}

-- a tree, the marks of the jobs taken from it, and how many jobs were taken in all
pub record PMarked (U V : Type 0) : Type 0 where
  pub tree : PTree U V
  pub marks : List Mark
  pub given : ℕ

-- P holds of each mark
abbrev pub Each : (Mark → Type 0) → List Mark → Type 0
Each P [] = ⊤
Each P (m ∷ ms) = P m × Each P ms

-- one more, where there is a number
abbrev pub one_more : Option ℕ → Option ℕ
one_more None = None
one_more (Some i) = Some (i + 1)

-- the number of the first mark with the ticket
abbrev pub position : ℕ → List Mark → Option ℕ
position t [] = None
position t (m ∷ ms) = if m.ticket == t then Some 0 else one_more (position t ms)

-- the marks but that one
abbrev pub without : ℕ → List Mark → List Mark
without t [] = []
without t (m ∷ ms) = if m.ticket == t then ms else m ∷ without t ms

-- how many messages the mark of the slot that begins at lo has, or 0
abbrev pub kept_at : List Mark → List ℕ → ℕ
kept_at [] lo = 0
kept_at (m ∷ ms) lo = if same m.range.lo lo then m.count else kept_at ms lo

-- the marks for which the test holds
abbrev pub those : (Mark → Bool) → List Mark → List Mark
those f [] = []
those f (m ∷ ms) = if f m then m ∷ those f ms else those f ms

module _ {U V : Type 0} where
  -- the same of each slot
  abbrev pub kept_numbers : List Mark → PSlots U V → List ℕ
  kept_numbers ms none = []
  kept_numbers ms (more lo old n ss) = kept_at ms lo ∷ kept_numbers ms ss

  abbrev pub kept_in : List Mark → PNode U V → List ℕ
  kept_in ms (leaf es) = []
  kept_in ms (inner ss) = kept_numbers ms ss

  -- the mark's slot: its range, its messages, and an inner node below it
  pub record IsMarked (m : Mark) (lo : List ℕ) (hi : Option (List ℕ)) (msgs : List (Msg U V)) (child : PNode U V) : Type 0 where
    pub begins : lo ≡ m.range.lo
    pub ends : hi ≡ m.range.hi
    pub some : 1 ≤ m.count
    pub has : m.count ≤ length msgs
    pub inner : is_leaf child ≡ false

  -- the slot stands in the root
  abbrev pub Stands : PNode U V → Mark → Type 0
  Stands root m = (i : ℕ) × AtRootSlot (IsMarked m) i root

-- no mark is at the slot that begins at lo
abbrev pub NoneAt : List ℕ → List Mark → Type 0
NoneAt lo ms = Each (λ m. same m.range.lo lo ≡ false) ms

-- each mark has a slot of its own, and tickets rise from `from` on and stay below `given`
abbrev pub AreMarks : {U V : Type 0} → PNode U V → ℕ → List Mark → ℕ → Type 0
AreMarks root from [] given = from ≤ given
AreMarks root from (m ∷ ms) given = (from ≤ m.ticket) × Stands root m × NoneAt m.range.lo ms × AreMarks root (m.ticket + 1) ms given

module _ {U V : Type 0} (means : U → Option V → Option V) where
  -- the mark's slot has the content
  pub record MarkHas (m : Mark) (c : Content V) (t : PTree U V) : Type 0 where
    pub shape : t.shape ≡ c.shape
    pub range : m.range ≡ c.range
    pub count : m.count ≡ c.count
    pub slot : (i : ℕ) × AtRootSlot (HasContent means c) i t.root

  -- what the mark's slot had before it has now
  abbrev pub KeepsContent : PTree U V → PTree U V → Mark → Type 0
  KeepsContent a b m = (c : Content V) → MarkHas m c a → MarkHas m c b

  -- the marks are marks of the tree b, and each keeps the content that it had in a
  abbrev pub AllKept : PTree U V → PTree U V → List Mark → ℕ → Type 0
  AllKept a b ms given = AreMarks b.root 0 ms given × Each (KeepsContent a b) ms
