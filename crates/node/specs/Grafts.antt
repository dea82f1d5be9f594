-- A slot by its number, lists that stay as they were while messages come behind them, and a subtree in a child's place.
use Rattle.std.specs.Prelude.{◌≡◌, ◌↔◌, ℕ, ◌<◌, ◌≤◌, Bool, true, false, List, [], ◌∷◌, ◌++◌, Option, None, length, take, drop, ⊤}
use Rattle.std.proofs.Common.{zero, suc}
use Rattle.message.specs.declared.msg.Msg.{Msg}
use Rattle.message.specs.Ranges.{within}
use Rattle.message.specs.Effects.{effects}
use Rattle.node.specs.declared.shape.Shape.{Shape}
use Rattle.node.specs.Pure.{PNode, leaf, inner, PSlots, none, more, PTree}
use Rattle.node.specs.Appended.{batches_by_slot}
use Rattle.node.specs.Lawful.{IsLawfulNode, next_lo}
use Rattle.node.specs.Meaning.{value}
use Rattle.node.specs.Site.{Spliced}

-- whether the first of the numbers is above 0, and the others
abbrev pub IsFirstKept : List ℕ → Bool → List ℕ → Type 0
IsFirstKept [] plain rest = (plain ≡ false) × (rest ≡ [])
IsFirstKept (k ∷ ks) plain rest = ((0 < k) ↔ (plain ≡ true)) × (rest ≡ ks)

-- what may hold of a slot: of its beginning, its end, its messages and its child
abbrev pub OfSlot : Type 0 → Type 0 → Type 1
OfSlot U V = List ℕ → Option (List ℕ) → List (Msg U V) → PNode U V → Type 0

module _ {U V : Type 0} where
  -- R holds of the beginning, the end, the messages and the child of the slot with this number; hi is the end of the last
  abbrev pub AtSlot : OfSlot U V → ℕ → Option (List ℕ) → PSlots U V → Type 0
  AtSlot R i hi none = ⊥
  AtSlot R zero hi (more lo ms n ss) = R lo (next_lo hi ss) ms n
  AtSlot R (suc i) hi (more lo ms n ss) = AtSlot R i hi ss

  -- the same of the root's slot with this number
  abbrev pub AtRootSlot : OfSlot U V → ℕ → PNode U V → Type 0
  AtRootSlot R i (leaf es) = ⊥
  AtRootSlot R i (inner ss) = AtSlot R i None ss

  -- where the number of a slot is above 0, its list stays as it was and its part stands behind it
  abbrev pub KeepLists : List ℕ → List (List (Msg U V)) → PSlots U V → PSlots U V → Type 0
  KeepLists ks ps none new = ⊤
  KeepLists ks [] (more lo old n ss) new = ⊤
  KeepLists [] (p ∷ ps) (more lo old n ss) new = ⊤
  KeepLists (k ∷ ks) (p ∷ ps) (more lo old n ss) none = ⊤
  KeepLists (k ∷ ks) (p ∷ ps) (more lo old n ss) (more lo' new n' ss') = (0 < k → new ≡ old ++ p) × KeepLists ks ps ss ss'

  -- the same of a root that has taken messages
  abbrev pub KeepsLists : List ℕ → List (Msg U V) → PNode U V → PNode U V → Type 0
  KeepsLists ks ms (inner ss) (inner new) = KeepLists ks (batches_by_slot None ms ss) ss new
  KeepsLists ks ms _ _ = ⊤

-- the subtree is lawful where the child is, and means at each key of the range what the oldest `count` messages make of
-- the child's value
pub record CanReplace {U V : Type 0} (means : U → Option V → Option V) (shape : Shape) (count : ℕ) (subtree : PNode U V) (lo : List ℕ) (hi : Option (List ℕ)) (msgs : List (Msg U V)) (child : PNode U V) : Type 0 where
  pub has : count ≤ length msgs
  pub lawful : (h : ℕ) → IsLawfulNode shape child h lo hi → IsLawfulNode shape subtree h lo hi
  pub same : (k : List ℕ) → within lo hi k ≡ true → value means subtree k ≡ effects means (take count msgs) k (value means child k)

-- one slot has the subtree for its child, and lost its oldest `count` messages and no others
pub record TookPlace {U V : Type 0} (count : ℕ) (subtree : PNode U V) (old new : PSlots U V) : Type 0 where
  pub lo : List ℕ
  pub msgs : List (Msg U V)
  pub child : PNode U V
  pub has : count ≤ length msgs
  pub was : old ≡ more lo msgs child none
  pub is : new ≡ more lo (drop count msgs) subtree none

module _ {U V : Type 0} where
  -- the same in a root, all of whose other slots stay
  abbrev pub IsGrafted : ℕ → ℕ → PNode U V → PNode U V → PNode U V → Type 0
  IsGrafted i count subtree (inner ss) (inner ts) = Spliced (λ e old new. TookPlace count subtree old new) i 1 None ss ts
  IsGrafted i count subtree _ _ = ⊥

-- a tree in whose root's slot with number i the subtree took the child's place
pub record Grafted {U V : Type 0} (means : U → Option V → Option V) (i count : ℕ) (subtree : PNode U V) (old new : PTree U V) : Type 0 where
  pub shape_kept : new.shape ≡ old.shape
  pub value_kept : (k : List ℕ) → value means new.root k ≡ value means old.root k
  pub slots : IsGrafted i count subtree old.root new.root
