-- What becomes of one slot and its leaf when messages are applied to it.
use Rattle.std.specs.Prelude.{◌≡◌, ℕ, ◌<◌, ◌≤◌, ◌⊎◌, Bool, false, List, [], ◌∷◌, Option, Some, None, length, take, drop, slice_index_or}
use Rattle.message.specs.declared.msg.Msg.{Msg}
use Rattle.message.specs.Cuts.{pieces}
use Rattle.message.specs.Effects.{effect, range_count, Takes}
use Rattle.node.specs.declared.node.Slot.{Slot}
use Rattle.node.specs.declared.shape.Shape.{Shape}
use Rattle.node.specs.declared.step.StepReply.{StepReply}
use Rattle.node.specs.declared.step.StepReply.TheVariants.{Did, NotThere, NoRoom, NoMemory}
use Rattle.node.specs.Leaves.{Applied, IsDivided}
use Rattle.node.specs.Meaning.{lookup}
use Rattle.node.specs.Pure.{PNode, leaf, inner, PSlots, none, more}
use Rattle.node.specs.See.{seen_slots}
use Rattle.node.specs.StepRows.{can_flush_leaf, CanPart}

module _ {U V : Type 0} where
  -- a node with the slots ss, in one of which these messages wait, has room for one slot more once the n oldest have left
  abbrev pub MayCut : Shape → Bool → PSlots U V → ℕ → List (Msg U V) → Type 0
  MayCut shape root ss n ms = (n ≤ length ms) × CanPart shape root ss n (range_count (drop n ms))

  -- likewise for the messages of the slot with this number
  abbrev pub MayCutAt : Shape → Bool → ℕ → ℕ → List (Slot U V) → Type 0
  MayCutAt shape root n i xs = (s : Slot U V) → s ≡ slice_index_or xs i s → MayCut shape root (seen_slots xs) n s.pending.0

module _ {U V : Type 0} (means : U → Option V → Option V) where
  -- a key without a value has none after the message either
  abbrev pub AddsNone : List (List ℕ × V) → Msg U V → Type 0
  AddsNone es m = (k : List ℕ) → lookup es k ≡ None → effect means m k None ≡ None

  -- the entries of the leaf c under the messages are those of the leaf d, which stays within the limit
  abbrev pub Absorbed : ℕ → List (Msg U V) → PNode U V → PNode U V → Type 0
  Absorbed most ms (leaf es) (leaf fs) = Applied means ms es fs × (length es ≤ most → length fs ≤ most)
  Absorbed most ms (leaf es) (inner ds) = ⊥
  Absorbed most ms (inner cs) d = ⊥

  -- the leaf c has room for the oldest of the messages as it is: it has fewer entries, or the message adds none
  abbrev pub HasPlace : ℕ → List (Msg U V) → PNode U V → Type 0
  HasPlace most [] c = ⊥
  HasPlace most (m ∷ ms) (leaf es) = (length es < most) ⊎ AddsNone es m
  HasPlace most (m ∷ ms) (inner cs) = ⊥

  -- what the reply of a flush in place says of a slot's messages and its leaf, before and after; it is asked only where
  -- there is room for the oldest message, so that `NoRoom` is never answered
  abbrev pub Filled : ℕ → StepReply → List (Msg U V) → PNode U V → PNode U V → Type 0
  Filled most (Did n) ms c d = (1 ≤ n) × (n ≤ length ms) × Absorbed most (take n ms) c d
  Filled most NotThere ms c d = (d ≡ c) × (can_flush_leaf (more [] ms c none) ≡ false)
  Filled most NoRoom ms c d = ⊥
  Filled most NoMemory ms c d = d ≡ c

  -- these are the entries of the leaf c after the n oldest messages
  abbrev pub AfterOldest : ℕ → List (Msg U V) → PNode U V → List (List ℕ × V) → Type 0
  AfterOldest n ms (leaf es) new = (n ≤ length ms) × Applied means (take n ms) es new
  AfterOldest n ms (inner cs) new = ⊥

  -- likewise for the slot with this number
  abbrev pub AfterOldestAt : ℕ → ℕ → List (Slot U V) → List (List ℕ × V) → Type 0
  AfterOldestAt n i xs new = (s : Slot U V) → s ≡ slice_index_or xs i s → AfterOldest n s.pending.0 s.child.value new

  -- the n oldest of the messages may go into the leaf c, below a node with the slots ss, though it is then cut: the first
  -- alone or, where the leaf has room for that one and the node for one slot more, others with it
  pub record MayGo (shape : Shape) (root : Bool) (ss : PSlots U V) (n : ℕ) (ms : List (Msg U V)) (c : PNode U V) : Type 0 where
    pub some : 1 ≤ n
    pub few : n ≤ shape.leaf
    pub room : (n ≡ 1) ⊎ (HasPlace shape.leaf ms c × MayCut shape root ss n ms)

  -- likewise for the slot with this number
  abbrev pub MayGoAt : Shape → Bool → ℕ → ℕ → List (Slot U V) → Type 0
  MayGoAt shape root n i xs = (s : Slot U V) → s ≡ slice_index_or xs i s → MayGo shape root (seen_slots xs) n s.pending.0 s.child.value

  -- the slots l and r are a slot from lo on whose leaf has these entries, cut in the middle, with the messages cut there
  pub record IsHalved (lo : List ℕ) (entries : List (List ℕ × V)) (rest : List (Msg U V)) (l r : Slot U V) : Type 0 where
    pub front : List (List ℕ × V)
    pub back : List (List ℕ × V)
    pub divided : IsDivided entries front back r.lo
    pub left_is : l.child.value ≡ leaf front
    pub right_is : r.child.value ≡ leaf back
    pub left_lo : l.lo ≡ lo
    pub left_msgs : Takes means [] (pieces lo (Some r.lo) rest) l.pending.0
    pub right_msgs : Takes means [] (pieces r.lo None rest) r.pending.0

-- what the reply says of one slot, whose n oldest messages the entries have
abbrev pub KeptOldest : {U V : Type 0} → ℕ → StepReply → List (List ℕ × V) → Slot U V → Slot U V → Type 0
KeptOldest n (Did k) es s t = (k ≡ n) × (t.lo ≡ s.lo) × (t.pending.0 ≡ drop n s.pending.0) × (t.child.value ≡ leaf es)
KeptOldest n NotThere es s t = ⊥
KeptOldest n NoRoom es s t = ⊥
KeptOldest n NoMemory es s t = t ≡ s
