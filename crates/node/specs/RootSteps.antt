-- The steps of the root, and what every step answers.
use Rattle.std.specs.Prelude.{◌≡◌, ℕ, ◌+◌, ◌≤◌, ◌↔◌, Bool, true, false, List, [], Option, length}
use Rattle.message.specs.declared.msg.Msg.{Msg}
use Rattle.message.specs.Effects.{effects}
use Rattle.node.specs.declared.step.StepReply.{StepReply}
use Rattle.node.specs.declared.step.StepReply.TheVariants.{NotThere, NoRoom}
use Rattle.node.specs.declared.step.StepKind.{StepKind}
use Rattle.node.specs.declared.step.StepKind.TheVariants.{FlushInner, FlushLeaf, SplitInner, MergeLeaves, MergeInner, RootUp, RootDown, DropCovered}
use Rattle.node.specs.Pure.{PNode, leaf, inner, PSlots, none, more, PTree}
use Rattle.node.specs.Lawful.{pending}
use Rattle.node.specs.Meaning.{value}
use Rattle.node.specs.StepRows.{emptied, piece_count}
use Rattle.node.specs.Sinks.{msgs_at}
use Rattle.node.specs.Steps.{Answers, IfDid, UnlessDid}

module _ {U V : Type 0} where
  -- how many inner nodes stand above the first leaf
  abbrev pub levels : PNode U V → ℕ
  levels (leaf es) = 0
  levels (inner none) = 1
  levels (inner (more lo ms n ss)) = levels n + 1

  -- the node has one slot
  abbrev pub has_one_slot : PNode U V → Bool
  has_one_slot (leaf es) = true
  has_one_slot (inner none) = false
  has_one_slot (inner (more lo ms n none)) = true
  has_one_slot (inner (more lo ms n (more lp mt o ss))) = false

  -- the node has one slot, and an inner node below it
  abbrev pub has_one_inner : PNode U V → Bool
  has_one_inner (leaf es) = false
  has_one_inner (inner none) = false
  has_one_inner (inner (more lo ms (leaf es) none)) = false
  has_one_inner (inner (more lo ms (inner cs) none)) = true
  has_one_inner (inner (more lo ms n (more lp mt o ss))) = false

  -- the tree with this root
  abbrev pub with_root : PNode U V → PTree U V → PTree U V
  with_root n t = record { shape = t.shape; root = n }

module _ {U V : Type 0} (means : U → Option V → Option V) where
  -- a new root has one slot over the old one, and at each key its messages mean what the old root's meant
  pub record RootRaised (a b : PNode U V) : Type 0 where
    pub slots : PSlots U V
    pub msgs : List (Msg U V)
    pub was : a ≡ inner slots
    pub is : b ≡ inner (more [] msgs (inner (emptied slots)) none)
    pub same : (k : List ℕ) (v : Option V) → effects means msgs k v ≡ effects means (msgs_at slots k) k v
    pub no_more : length msgs ≤ pending slots

  -- the only child is the root, with the old root's messages behind its own
  pub record RootLowered (a b : PNode U V) : Type 0 where
    pub msgs : List (Msg U V)
    pub below : PSlots U V
    pub grown : PSlots U V
    pub was : a ≡ inner (more [] msgs (inner below) none)
    pub is : b ≡ inner grown
    pub same_slots : emptied grown ≡ emptied below
    pub same : (k : List ℕ) (v : Option V) → effects means (msgs_at grown k) k v ≡ effects means msgs k (effects means (msgs_at below k) k v)
    pub pieces_grow : pending grown ≤ pending below + piece_count msgs below

  -- what the reply of root_up says of the tree before and after
  pub record AnswersUp (r : StepReply) (a b : PTree U V) : Type 0 where
    pub value_kept : (k : List ℕ) → value means b.root k ≡ value means a.root k
    pub shape_kept : b.shape ≡ a.shape
    pub did : IfDid r (λ n. (n ≡ 0) × RootRaised a.root b.root)
    pub not_there : (r ≡ NotThere) ↔ (has_one_slot a.root ≡ true)
    pub no_room : (r ≡ NoRoom) ↔ ((has_one_slot a.root ≡ false) × (16 ≤ levels a.root))
    pub unchanged : UnlessDid r (b ≡ a)

  -- likewise for root_down, which always has room
  pub record AnswersDown (r : StepReply) (a b : PTree U V) : Type 0 where
    pub value_kept : (k : List ℕ) → value means b.root k ≡ value means a.root k
    pub shape_kept : b.shape ≡ a.shape
    pub did : IfDid r (λ n. (n ≡ 0) × RootLowered a.root b.root)
    pub not_there : (r ≡ NotThere) ↔ (has_one_inner a.root ≡ false)
    pub no_room : r ≡ NoRoom → ⊥
    pub unchanged : UnlessDid r (b ≡ a)

  -- what the reply of any step says of the tree before and after
  abbrev pub StepAnswers : StepKind → List ℕ → ℕ → StepReply → PTree U V → PTree U V → Type 0
  StepAnswers FlushInner p i r a b = Answers means FlushInner p i r a b
  StepAnswers FlushLeaf p i r a b = Answers means FlushLeaf p i r a b
  StepAnswers SplitInner p i r a b = Answers means SplitInner p i r a b
  StepAnswers MergeLeaves p i r a b = Answers means MergeLeaves p i r a b
  StepAnswers MergeInner p i r a b = Answers means MergeInner p i r a b
  StepAnswers RootUp p i r a b = AnswersUp r a b
  StepAnswers RootDown p i r a b = AnswersDown r a b
  StepAnswers DropCovered p i r a b = Answers means DropCovered p i r a b
