-- What each step at a slot makes of the slots that it names.
use Rattle.std.specs.Prelude.{◌≡◌, ℕ, ◌+◌, ◌-◌, ◌*◌, ◌<◌, ◌≤◌, ◌⊎◌, ◌++◌, ◌&&◌, Bool, true, false, List, [], ◌∷◌, Option, None, length, drop, take, ⊤}
use Rattle.message.specs.declared.msg.Msg.{Msg}
use Rattle.message.specs.declared.msg.Msg.TheVariants.{Put, Del, DelRange, Edit}
use Rattle.message.specs.Cuts.{pieces}
use Rattle.message.specs.Effects.{effects, range_count}
use Rattle.message.specs.Ranges.{reaches, ends_within}
use Rattle.node.specs.declared.shape.Shape.{Shape}
use Rattle.node.specs.Pure.{PNode, leaf, inner, PSlots, none, more, depth}
use Rattle.node.specs.Meaning.{value, lookup}
use Rattle.node.specs.Lawful.{slot_count, pending, next_lo, Rises}
use Rattle.node.specs.Site.{joined}
use Rattle.node.specs.Sinks.{first_lo}

module _ {U V : Type 0} where
  -- how many pieces the messages make in these slots
  abbrev pub piece_count : List (Msg U V) → PSlots U V → ℕ
  piece_count ms none = 0
  piece_count ms (more lo old n ss) = length (pieces lo (next_lo None ss) ms) + piece_count ms ss

  -- the slots without their messages
  abbrev pub emptied : PSlots U V → PSlots U V
  emptied none = none
  emptied (more lo ms n ss) = more lo [] n (emptied ss)

  -- ---- split_inner, flush_leaf: one slot more

  -- a node with these slots has room for one more, and, once so many messages have left, for so many others; a root
  -- has room for any
  abbrev pub CanPart : Shape → Bool → PSlots U V → ℕ → ℕ → Type 0
  CanPart shape root ss consumed added = (slot_count ss < shape.fanout) × (root ≡ false → pending ss + added ≤ shape.pending + consumed)

  -- it has not
  abbrev pub CannotPart : Shape → Bool → PSlots U V → ℕ → ℕ → Type 0
  CannotPart shape root ss consumed added = (shape.fanout ≤ slot_count ss) ⊎ ((root ≡ false) × (shape.pending < (pending ss - consumed) + added))

  -- ---- flush_inner

  -- the first of these slots has a message, and an inner node below it
  abbrev pub can_flush_inner : PSlots U V → Bool
  can_flush_inner (more lo (m ∷ ms) (inner cs) ss) = true
  can_flush_inner (more lo (m ∷ ms) (leaf es) ss) = false
  can_flush_inner (more lo [] n ss) = false
  can_flush_inner none = false

  -- the pieces below the first of these slots and those of its oldest message are too many for a node
  abbrev pub IsFullBelow : ℕ → PSlots U V → Type 0
  IsFullBelow most (more lo (m ∷ ms) (inner cs) ss) = most < pending cs + piece_count (m ∷ []) cs
  IsFullBelow most (more lo (m ∷ ms) (leaf es) ss) = ⊥
  IsFullBelow most (more lo [] n ss) = ⊥
  IsFullBelow most none = ⊥

  -- one slot over an inner node gave its oldest n messages to it, whose slots keep their ranges and children
  pub record FlushedInner (n : ℕ) (old new : PSlots U V) : Type 0 where
    pub lo : List ℕ
    pub msgs : List (Msg U V)
    pub below : PSlots U V
    pub grown : PSlots U V
    pub some : 1 ≤ n
    pub has : n ≤ length msgs
    pub was : old ≡ more lo msgs (inner below) none
    pub is : new ≡ more lo (drop n msgs) (inner grown) none
    pub same_slots : emptied grown ≡ emptied below
    pub pieces_grow : pending grown ≤ pending below + piece_count (take n msgs) below

  -- ---- split_inner

  -- the node is an inner one with two slots or more
  abbrev pub is_divisible : PNode U V → Bool
  is_divisible (leaf es) = false
  is_divisible (inner none) = false
  is_divisible (inner (more lo ms c none)) = false
  is_divisible (inner (more lo ms c (more l m d ss))) = true

  -- the child of the first of these slots is
  abbrev pub can_split_inner : PSlots U V → Bool
  can_split_inner none = false
  can_split_inner (more lo ms c ss) = is_divisible c

  -- how many messages of the first of these slots are range-deletes
  abbrev pub ranges_first : PSlots U V → ℕ
  ranges_first none = 0
  ranges_first (more lo ms c ss) = range_count ms

  -- one slot over an inner node became two over its parts, and only range-deletes stand in both
  pub record SplitInTwo (old new : PSlots U V) : Type 0 where
    pub lo : List ℕ
    pub msgs : List (Msg U V)
    pub left_msgs : List (Msg U V)
    pub right_msgs : List (Msg U V)
    pub left : PSlots U V
    pub right : PSlots U V
    pub some_left : 1 ≤ slot_count left
    pub some_right : 1 ≤ slot_count right
    pub was : old ≡ more lo msgs (inner (joined left right)) none
    pub is : new ≡ more lo left_msgs (inner left) (more (first_lo right) right_msgs (inner right) none)
    pub pieces_grow : length left_msgs + length right_msgs ≤ length msgs + range_count msgs

  -- ---- flush_leaf

  -- the first of these slots has a message, and a leaf below it
  abbrev pub can_flush_leaf : PSlots U V → Bool
  can_flush_leaf (more lo (m ∷ ms) (leaf es) ss) = true
  can_flush_leaf (more lo (m ∷ ms) (inner cs) ss) = false
  can_flush_leaf (more lo [] n ss) = false
  can_flush_leaf none = false

  -- the oldest message of the first of these slots edits a key that the leaf below it has not
  abbrev pub EditsAbsent : PSlots U V → Type 0
  EditsAbsent (more lo (Edit q u ∷ ms) (leaf es) ss) = lookup es q ≡ None
  EditsAbsent (more lo (Edit q u ∷ ms) (inner cs) ss) = ⊥
  EditsAbsent (more lo (Put q v ∷ ms) n ss) = ⊥
  EditsAbsent (more lo (Del q ∷ ms) n ss) = ⊥
  EditsAbsent (more lo (DelRange r ∷ ms) n ss) = ⊥
  EditsAbsent (more lo [] n ss) = ⊥
  EditsAbsent none = ⊥

  -- all children are leaves
  abbrev pub AreLeaves : PSlots U V → Type 0
  AreLeaves none = ⊤
  AreLeaves (more lo ms (leaf es) ss) = AreLeaves ss
  AreLeaves (more lo ms (inner cs) ss) = ⊥

  -- ---- merge_leaves, merge_inner

  -- the first two of these slots have leaves
  abbrev pub can_merge_leaves : PSlots U V → Bool
  can_merge_leaves (more lo ms (leaf es) (more lp ns (leaf fs) ss)) = true
  can_merge_leaves (more lo ms (leaf es) (more lp ns (inner ds) ss)) = false
  can_merge_leaves (more lo ms (leaf es) none) = false
  can_merge_leaves (more lo ms (inner cs) ss) = false
  can_merge_leaves none = false

  -- the first two of these slots have inner nodes
  abbrev pub can_merge_inner : PSlots U V → Bool
  can_merge_inner (more lo ms (inner cs) (more lp ns (inner ds) ss)) = true
  can_merge_inner (more lo ms (inner cs) (more lp ns (leaf fs) ss)) = false
  can_merge_inner (more lo ms (inner cs) none) = false
  can_merge_inner (more lo ms (leaf es) ss) = false
  can_merge_inner none = false

  -- the children of the first two of these slots are too large for one
  abbrev pub AreTooMany : Shape → PSlots U V → Type 0
  AreTooMany shape (more lo ms (leaf es) (more lp ns (leaf fs) ss)) = shape.leaf < length es + length fs
  AreTooMany shape (more lo ms (leaf es) (more lp ns (inner ds) ss)) = ⊥
  AreTooMany shape (more lo ms (leaf es) none) = ⊥
  AreTooMany shape (more lo ms (inner cs) (more lp ns (inner ds) ss)) = (shape.fanout < slot_count cs + slot_count ds) ⊎ (shape.pending < pending cs + pending ds)
  AreTooMany shape (more lo ms (inner cs) (more lp ns (leaf fs) ss)) = ⊥
  AreTooMany shape (more lo ms (inner cs) none) = ⊥
  AreTooMany shape none = ⊥

  -- two slots became one over both children, with no more messages
  pub record MergedInner (old new : PSlots U V) : Type 0 where
    pub lo : List ℕ
    pub pivot : List ℕ
    pub left_msgs : List (Msg U V)
    pub right_msgs : List (Msg U V)
    pub msgs : List (Msg U V)
    pub left : PSlots U V
    pub right : PSlots U V
    pub was : old ≡ more lo left_msgs (inner left) (more pivot right_msgs (inner right) none)
    pub is : new ≡ more lo msgs (inner (joined left right)) none
    pub no_more : length msgs ≤ length left_msgs + length right_msgs

  -- the same over leaves
  pub record MergedLeaves (old new : PSlots U V) : Type 0 where
    pub lo : List ℕ
    pub pivot : List ℕ
    pub left_msgs : List (Msg U V)
    pub right_msgs : List (Msg U V)
    pub msgs : List (Msg U V)
    pub left : List (List ℕ × V)
    pub right : List (List ℕ × V)
    pub was : old ≡ more lo left_msgs (leaf left) (more pivot right_msgs (leaf right) none)
    pub is : new ≡ more lo msgs (leaf (left ++ right)) none
    pub no_more : length msgs ≤ length left_msgs + length right_msgs

-- ---- drop_covered

module _ {U V : Type 0} where
  -- the oldest message of the first of these slots, which end at hi, is a range-delete of the slot's whole range
  abbrev pub can_drop_covered : Option (List ℕ) → PSlots U V → Bool
  can_drop_covered hi (more lo (DelRange r ∷ ms) n ss) = reaches r.lo lo && ends_within (next_lo hi ss) r.hi
  can_drop_covered hi (more lo (Put q v ∷ ms) n ss) = false
  can_drop_covered hi (more lo (Del q ∷ ms) n ss) = false
  can_drop_covered hi (more lo (Edit q u ∷ ms) n ss) = false
  can_drop_covered hi (more lo [] n ss) = false
  can_drop_covered hi none = false

module _ {U V : Type 0} where
  -- no message and no entry stands in the node or below it
  abbrev mutual
    pub IsBare : PNode U V → Type 0
    IsBare (leaf es) = es ≡ []
    IsBare (inner ss) = AreBare ss

    pub AreBare : PSlots U V → Type 0
    AreBare none = ⊤
    AreBare (more lo ms n ss) = (ms ≡ []) × IsBare n × AreBare ss

module _ {U V : Type 0} (means : U → Option V → Option V) where
  -- one slot lost its oldest message, and its child is an empty one of the same depth
  pub record DroppedCovered (n : ℕ) (old new : PSlots U V) : Type 0 where
    pub lo : List ℕ
    pub msgs : List (Msg U V)
    pub first : Msg U V
    pub child : PNode U V
    pub empty : PNode U V
    pub one : n ≡ 1
    pub was : old ≡ more lo (first ∷ msgs) child none
    pub is : new ≡ more lo msgs empty none
    pub as_deep : depth empty ≡ depth child
    pub bare : IsBare empty
    pub nothing : (k : List ℕ) → value means empty k ≡ None

  -- after the messages a leaf with these entries would have more than so many
  pub record Overflows (most : ℕ) (es : List (List ℕ × V)) (ms : List (Msg U V)) : Type 0 where
    pub after : List (List ℕ × V)
    pub rises : Rises [] None after
    pub same : (k : List ℕ) → lookup after k ≡ effects means ms k (lookup es k)
    pub many : most < length after

  -- one slot over a leaf gave its oldest n messages to it; the leaf was cut, with the rest of the list, only where it
  -- would have more than `most` entries after those messages
  pub record FlushedLeaf (most : ℕ) (n : ℕ) (old new : PSlots U V) : Type 0 where
    pub lo : List ℕ
    pub msgs : List (Msg U V)
    pub entries : List (List ℕ × V)
    pub some : 1 ≤ n
    pub has : n ≤ length msgs
    pub was : old ≡ more lo msgs (leaf entries) none
    pub leaves : AreLeaves new
    pub uncut : slot_count new ≡ 1 → (e : List (List ℕ × V)) × (new ≡ more lo (drop n msgs) (leaf e) none)
    pub cut : 1 < slot_count new → Overflows most entries (take n msgs)
    pub pieces_grow : pending new ≤ length (drop n msgs) + (slot_count new - 1) * range_count (drop n msgs)

  -- after its oldest message the leaf below the first of `rest` is too large, and its node, with the slots ss, cannot
  -- have two in the place of that one
  abbrev pub LeafHasNoRoom : Shape → Bool → PSlots U V → PSlots U V → Type 0
  LeafHasNoRoom shape root ss (more lo (m ∷ ms) (leaf es) rest) = Overflows shape.leaf es (m ∷ []) × CannotPart shape root ss 1 (range_count ms)
  LeafHasNoRoom shape root ss (more lo (m ∷ ms) (inner cs) rest) = ⊥
  LeafHasNoRoom shape root ss (more lo [] n rest) = ⊥
  LeafHasNoRoom shape root ss none = ⊥
