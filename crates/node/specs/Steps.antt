-- The steps at a slot: where each can be done, where it has no room, and what it has done. RootUp and RootDown have no
-- slot: see RootSteps.
use Rattle.std.specs.Prelude.{◌≡◌, ℕ, ◌<◌, ◌≤◌, ◌↔◌, ◌⊎◌, IfSome, Bool, true, false, List, [], ◌∷◌, Option, Some, None, ⊤, MatchOption}
use Rattle.node.specs.declared.shape.Shape.{Shape}
use Rattle.node.specs.declared.step.StepReply.{StepReply}
use Rattle.node.specs.declared.step.StepReply.TheVariants.{Did, NotThere, NoRoom, NoMemory}
use Rattle.node.specs.declared.step.StepKind.{StepKind}
use Rattle.node.specs.declared.step.StepKind.TheVariants.{FlushInner, FlushLeaf, SplitInner, MergeLeaves, MergeInner, RootUp, RootDown, DropCovered}
use Rattle.node.specs.Pure.{PNode, leaf, inner, PSlots, PTree}
use Rattle.node.specs.Meaning.{value}
use Rattle.node.specs.Lawful.{slot_count, pending, starts_at, AreLawfulSlots}
use Rattle.node.specs.Site.{slots_at, with_slots, slots_from, end_at, Spliced}
use Rattle.node.specs.Sinks.{Sinks, first_lo}
use Rattle.node.specs.StepRows.{can_flush_inner, IsFullBelow, FlushedInner, can_split_inner, ranges_first, SplitInTwo, can_flush_leaf, EditsAbsent, FlushedLeaf, LeafHasNoRoom, CannotPart, can_merge_leaves, can_merge_inner, AreTooMany, MergedLeaves, MergedInner, can_drop_covered, DroppedCovered}

-- how many slots of a node the step names
abbrev pub width : StepKind → ℕ
width FlushInner = 1
width FlushLeaf = 1
width SplitInner = 1
width MergeLeaves = 2
width MergeInner = 2
width RootUp = 1
width RootDown = 1
width DropCovered = 1

module _ {U V : Type 0} where
  -- the step can be done at the first of these slots, which end at hi
  abbrev pub applies : StepKind → Option (List ℕ) → PSlots U V → Bool
  applies FlushInner hi ss = can_flush_inner ss
  applies FlushLeaf hi ss = can_flush_leaf ss
  applies SplitInner hi ss = can_split_inner ss
  applies MergeLeaves hi ss = can_merge_leaves ss
  applies MergeInner hi ss = can_merge_inner ss
  applies RootUp hi ss = false
  applies RootDown hi ss = false
  applies DropCovered hi ss = can_drop_covered hi ss

  -- only doing the step tells whether there is room for it at the first of these slots
  abbrev pub OnlyDoingTells : StepKind → PSlots U V → Type 0
  OnlyDoingTells FlushInner ss = ⊥
  OnlyDoingTells FlushLeaf ss = EditsAbsent ss
  OnlyDoingTells SplitInner ss = ⊥
  OnlyDoingTells MergeLeaves ss = ⊥
  OnlyDoingTells MergeInner ss = ⊥
  OnlyDoingTells RootUp ss = ⊥
  OnlyDoingTells RootDown ss = ⊥
  OnlyDoingTells DropCovered ss = ⊥

module _ {U V : Type 0} (means : U → Option V → Option V) where
  -- there is no room for the step at the slot with this number of a node
  abbrev pub HasNoRoom : StepKind → Shape → Bool → ℕ → PSlots U V → Type 0
  HasNoRoom FlushInner shape root i ss = IsFullBelow shape.pending (slots_from i ss)
  HasNoRoom FlushLeaf shape root i ss = LeafHasNoRoom means shape root ss (slots_from i ss)
  HasNoRoom SplitInner shape root i ss = CannotPart shape root ss 0 (ranges_first (slots_from i ss))
  HasNoRoom MergeLeaves shape root i ss = AreTooMany shape (slots_from i ss)
  HasNoRoom MergeInner shape root i ss = AreTooMany shape (slots_from i ss)
  HasNoRoom RootUp shape root i ss = ⊥
  HasNoRoom RootDown shape root i ss = ⊥
  HasNoRoom DropCovered shape root i ss = ⊥

  -- there is room, as far as is told before the step is done
  abbrev pub MayHaveRoom : StepKind → Shape → Bool → ℕ → PSlots U V → Type 0
  MayHaveRoom kind shape root i ss = HasNoRoom kind shape root i ss → OnlyDoingTells kind (slots_from i ss)

  -- the slots `new` that Did n of a step in a tree of the shape put in the place of the slots `old`
  abbrev pub Formed : StepKind → Shape → ℕ → PSlots U V → PSlots U V → Type 0
  Formed FlushInner shape n old new = FlushedInner n old new
  Formed FlushLeaf shape n old new = FlushedLeaf means shape.leaf n old new
  Formed SplitInner shape n old new = (n ≡ 0) × SplitInTwo old new
  Formed MergeLeaves shape n old new = (n ≡ 0) × MergedLeaves old new
  Formed MergeInner shape n old new = (n ≡ 0) × MergedInner old new
  Formed RootUp shape n old new = ⊥
  Formed RootDown shape n old new = ⊥
  Formed DropCovered shape n old new = DroppedCovered means n old new

-- the slots of a node, with keys from lo up to and without hi, h levels above the leaves; a root has no limit of pending pieces
pub record LawfulSlots {U V : Type 0} (shape : Shape) (root : Bool) (h : ℕ) (lo : List ℕ) (hi : Option (List ℕ)) (ss : PSlots U V) : Type 0 where
  pub above : 0 < h
  pub few : slot_count ss ≤ shape.fanout
  pub light : root ≡ false → pending ss ≤ shape.pending
  pub starts : starts_at lo ss
  pub each : AreLawfulSlots shape ss h hi

-- what Did n of a step at the slot with number i of a node of a tree of the shape has done to the node's slots, which end at hi
abbrev pub Done : {U V : Type 0} → (U → Option V → Option V) → StepKind → Shape → ℕ → ℕ → Option (List ℕ) → PSlots U V → PSlots U V → Type 0
Done means kind shape n i hi a b = Spliced (λ e old new. Sinks means n e old new × Formed means kind shape n old new) i (width kind) hi a b

-- what a step's reply says of the node's slots before and after: Did of slots where it can be done and may have room
abbrev pub Replies : {U V : Type 0} → (U → Option V → Option V) → StepKind → Shape → Bool → ℕ → StepReply → PSlots U V → PSlots U V → Type 0
Replies means kind shape root i (Did n) a b = (h : ℕ) (lo : List ℕ) (hi : Option (List ℕ)) → LawfulSlots shape root h lo hi a → applies kind hi (slots_from i a) ≡ true → MayHaveRoom means kind shape root i a → Done means kind shape n i hi a b × LawfulSlots shape root h lo hi b × (HasNoRoom means kind shape root i a → ⊥)
Replies means kind shape root i NotThere a b = (b ≡ a) × ((hi : Option (List ℕ)) → applies kind hi (slots_from i a) ≡ false)
Replies means kind shape root i NoRoom a b = (b ≡ a) × HasNoRoom means kind shape root i a
Replies means kind shape root i NoMemory a b = b ≡ a

-- the replies of a walk that finds no node
abbrev pub IsMissing : StepReply → Type 0
IsMissing (Did n) = ⊥
IsMissing NotThere = ⊤
IsMissing NoRoom = ⊥
IsMissing NoMemory = ⊤

-- R holds of the slots of the node at the place in a and in b, and all else stays
abbrev pub At : {U V : Type 0} → List ℕ → StepReply → (PSlots U V → PSlots U V → Type 0) → PNode U V → PNode U V → Type 0
At {U} {V} p r R a b = MatchOption (slots_at p a) ((b ≡ a) × IsMissing r) (λ ss. (new : PSlots U V) × (b ≡ with_slots p new a) × R ss new)

-- the step can be done at the slot with this number of these slots, which end at hi
abbrev pub can_from : {U V : Type 0} → StepKind → ℕ → Option (List ℕ) → Option (PSlots U V) → Bool
can_from kind i hi None = false
can_from kind i hi (Some ss) = applies kind hi (slots_from i ss)

-- the step can be done at the slot with number i of the node at the place
abbrev pub there : {U V : Type 0} → StepKind → ℕ → List ℕ → Option (List ℕ) → PNode U V → Bool
there kind i p hi a = can_from kind i (end_at p hi a) (slots_at p a)

-- the step can be done at the slot with this number of these slots, which end at hi, but there is no room for it
abbrev pub IsRefused : {U V : Type 0} → (U → Option V → Option V) → StepKind → Shape → Bool → ℕ → Option (List ℕ) → Option (PSlots U V) → Type 0
IsRefused means kind shape root i hi ss = (can_from kind i hi ss ≡ true) × IfSome ss (HasNoRoom means kind shape root i)

-- it can be done, and in lawful slots there is room as far as reading tells
abbrev pub IsAdmitted : {U V : Type 0} → (U → Option V → Option V) → StepKind → Shape → Bool → ℕ → Option (List ℕ) → Option (PSlots U V) → Type 0
IsAdmitted means kind shape root i hi ss = (can_from kind i hi ss ≡ true) × IfSome ss (λ a. (h : ℕ) (lo : List ℕ) → LawfulSlots shape root h lo hi a → MayHaveRoom means kind shape root i a)

-- what reading alone answers: the reply that refuses the step at the slot with this number of these slots, or none
abbrev pub Precheck : {U V : Type 0} → (U → Option V → Option V) → StepKind → Shape → Bool → ℕ → Option (List ℕ) → Option (PSlots U V) → Option StepReply → Type 0
Precheck means kind shape root i hi ss None = IsAdmitted means kind shape root i hi ss
Precheck means kind shape root i hi ss (Some (Did n)) = ⊥
Precheck means kind shape root i hi ss (Some NotThere) = can_from kind i hi ss ≡ false
Precheck means kind shape root i hi ss (Some NoRoom) = IsRefused means kind shape root i hi ss
Precheck means kind shape root i hi ss (Some NoMemory) = ⊥

-- whether a place is that of the root
abbrev pub is_top : List ℕ → Bool
is_top [] = true
is_top (i ∷ p) = false

-- the first root slot that the step names or lies below, and how many it names
abbrev pub root_slot : List ℕ → ℕ → ℕ
root_slot [] i = i
root_slot (j ∷ p) i = j

-- how many root slots those are
abbrev pub root_width : StepKind → List ℕ → ℕ
root_width kind [] = width kind
root_width kind (j ∷ p) = 1

-- in a tree of the shape Did n of the step at the slot with number i of the node at the place made b of a
pub record Stepped {U V : Type 0} (means : U → Option V → Option V) (kind : StepKind) (shape : Shape) (n : ℕ) (p : List ℕ) (i : ℕ) (a b : PNode U V) : Type 0 where
  pub old : PSlots U V
  pub new : PSlots U V
  pub was : slots_at p a ≡ Some old
  pub is : b ≡ with_slots p new a
  pub done : Done means kind shape n i (end_at p None a) old new

-- every root slot that the step neither names nor lies below stays as it is
abbrev pub OthersStay : {U V : Type 0} → StepKind → List ℕ → ℕ → PNode U V → PNode U V → Type 0
OthersStay kind p i (leaf es) b = ⊥
OthersStay kind p i (inner ss) (leaf es) = ⊥
OthersStay kind p i (inner ss) (inner ts) = Spliced (λ e old new. starts_at (first_lo old) new) (root_slot p i) (root_width kind p) None ss ts

-- what holds where the step is done
abbrev pub IfDid : StepReply → (ℕ → Type 0) → Type 0
IfDid (Did n) P = P n
IfDid NotThere P = ⊤
IfDid NoRoom P = ⊤
IfDid NoMemory P = ⊤

-- what holds where it is not
abbrev pub UnlessDid : StepReply → Type 0 → Type 0
UnlessDid (Did n) P = ⊤
UnlessDid NotThere P = P
UnlessDid NoRoom P = P
UnlessDid NoMemory P = P

-- the step can be done at the slot with number i of the node at the place, but there is no room for it
abbrev pub LacksRoom : {U V : Type 0} → (U → Option V → Option V) → StepKind → List ℕ → ℕ → PTree U V → Type 0
LacksRoom means kind p i t = (there kind i p None t.root ≡ true) × IfSome (slots_at p t.root) (HasNoRoom means kind t.shape (is_top p) i)

-- only doing the step tells whether there is room for it at the slot with number i of the node at the place
abbrev pub TellsByDoing : {U V : Type 0} → StepKind → List ℕ → ℕ → PTree U V → Type 0
TellsByDoing kind p i t = MatchOption (slots_at p t.root) ⊥ (λ ss. OnlyDoingTells kind (slots_from i ss))

-- what the reply of a step at the slot with number i of the node at the place says of the tree before and after
pub record Answers {U V : Type 0} (means : U → Option V → Option V) (kind : StepKind) (p : List ℕ) (i : ℕ) (r : StepReply) (a b : PTree U V) : Type 0 where
  pub value_kept : (k : List ℕ) → value means b.root k ≡ value means a.root k
  pub shape_kept : b.shape ≡ a.shape
  pub did : IfDid r (λ n. Stepped means kind a.shape n p i a.root b.root)
  pub others_stay : IfDid r (λ n. OthersStay kind p i a.root b.root)
  pub not_there : (r ≡ NotThere) ↔ (there kind i p None a.root ≡ false)
  pub no_room : r ≡ NoRoom → LacksRoom means kind p i a
  pub no_room_resolved : LacksRoom means kind p i a → (r ≡ NoRoom) ⊎ ((r ≡ NoMemory) × TellsByDoing kind p i a)
  pub unchanged : UnlessDid r (b ≡ a)
