-- The slot with the most pending messages.
use Rattle.std.specs.Prelude.{◌≡◌, ℕ, ◌+◌, ◌<◌, ◌≤◌, ◌++◌, List, [], ◌∷◌, length, ⊤}
use Rattle.std.proofs.Common.{zero, suc, pred}
use Rattle.std.specs.List.{All}
use Rattle.message.specs.declared.msg.Msg.{Msg}
use Rattle.node.specs.declared.place.TreeStep.{TreeStep}
use Rattle.node.specs.declared.step.StepKind.{StepKind}
use Rattle.node.specs.declared.step.StepKind.TheVariants.{FlushInner, FlushLeaf}
use Rattle.node.specs.Lawful.{slot_count}
use Rattle.node.specs.Places.{way}
use Rattle.node.specs.Pure.{PNode, leaf, inner, PSlots, none, more}

-- a slot: the way to its node, its number, the flush that it can have, and how many messages it has pending
pub record Load : Type 0 where
  pub at : List ℕ
  pub slot : ℕ
  pub kind : StepKind
  pub count : ℕ

-- the load of the slot that a step names, which has so many messages pending
abbrev pub load_of : TreeStep → ℕ → Load
load_of step count = record { at = way step.at; slot = step.slot; kind = step.kind; count = count }

module _ {U V : Type 0} where
  -- the flush into the node
  abbrev pub flush_into : PNode U V → StepKind
  flush_into (leaf es) = FlushLeaf
  flush_into (inner ss) = FlushInner

  -- the loads of a node's own slots, in their order, numbered from i on
  abbrev pub own_loads : List ℕ → ℕ → PSlots U V → List Load
  own_loads at i none = []
  own_loads at i (more lo ms n ss) = record { at = at; slot = i; kind = flush_into n; count = length ms } ∷ own_loads at (i + 1) ss

  -- all loads in the walk that takes a node before its children
  abbrev mutual
    pub loads : List ℕ → PNode U V → List Load
    loads at (leaf es) = []
    loads at (inner ss) = own_loads at 0 ss ++ loads_below at 0 ss

    pub loads_below : List ℕ → ℕ → PSlots U V → List Load
    loads_below at i none = []
    loads_below at i (more lo ms n ss) = loads (at ++ i ∷ []) n ++ loads_below at (i + 1) ss

-- l is the first of the heaviest of these loads, and has messages: those before it have fewer, those after it no more
pub record IsFirstHeaviest (l : Load) (ls : List Load) : Type 0 where
  pub before : List Load
  pub after : List Load
  pub is : ls ≡ before ++ l ∷ after
  pub some : 0 < l.count
  pub lighter : All (λ m. m.count < l.count) before
  pub no_heavier : All (λ m. m.count ≤ l.count) after

-- the step is the flush of the first of the heaviest of these loads
abbrev pub FlushesHeaviest : List Load → TreeStep → Type 0
FlushesHeaviest ls step = (count : ℕ) × IsFirstHeaviest (load_of step count) ls

-- the step is the flush of the first of these loads that has at least so many messages
pub record IsFirstOf (least : ℕ) (step : TreeStep) (ls : List Load) : Type 0 where
  pub count : ℕ
  pub before : List Load
  pub after : List Load
  pub is : ls ≡ before ++ load_of step count ∷ after
  pub many : least ≤ count
  pub lighter : All (λ m. m.count < least) before

module _ {U V : Type 0} (weigh : List (Msg U V) → PNode U V → ℕ) (least : ℕ) where
  -- each of these slots weighs less, by its messages and its child
  abbrev pub AreLight : PSlots U V → Type 0
  AreLight none = ⊤
  AreLight (more lo ms n ss) = (weigh ms n < least) × AreLight ss

  -- the first of these slots that weighs at least so much has this number
  abbrev pub IsFirst : PSlots U V → ℕ → Type 0
  IsFirst none i = ⊥
  IsFirst (more lo ms n ss) zero = least ≤ weigh ms n
  IsFirst (more lo ms n ss) (suc i) = (weigh ms n < least) × IsFirst ss i

module _ {U V : Type 0} where
  -- a node h levels above its leaves, which are equally deep, and no node with more slots than a byte can number
  abbrev mutual
    pub IsWalkable : ℕ → PNode U V → Type 0
    IsWalkable h (leaf es) = h ≡ 0
    IsWalkable h (inner ss) = (0 < h) × (slot_count ss ≤ 256) × AreWalkable h ss

    pub AreWalkable : ℕ → PSlots U V → Type 0
    AreWalkable h none = ⊤
    AreWalkable h (more lo ms n ss) = IsWalkable (pred h) n × AreWalkable h ss
