-- What becomes of one slot and its child when messages go down.
use Rattle.std.specs.Prelude.{◌≡◌, ℕ, ◌-◌, ◌≤◌, true, false, List, [], ◌∷◌, Option, None, length, take, drop, ⊤}
use Rattle.message.specs.declared.msg.Msg.{Msg}
use Rattle.node.specs.declared.step.StepReply.{StepReply}
use Rattle.node.specs.declared.step.StepReply.TheVariants.{Did, NotThere, NoRoom, NoMemory}
use Rattle.node.specs.Appended.{batches_by_slot, HaveTaken}
use Rattle.node.specs.Lawful.{pending}
use Rattle.node.specs.Meaning.{begins_by}
use Rattle.node.specs.Pure.{PNode, leaf, inner, PSlots, none, more}
use Rattle.node.specs.StepRows.{piece_count, can_flush_inner, IsFullBelow}

-- the messages that a reply leaves in their slot
abbrev pub left : {U V : Type 0} → StepReply → List (Msg U V) → List (Msg U V)
left (Did n) ms = drop n ms
left NotThere ms = ms
left NoRoom ms = ms
left NoMemory ms = ms

-- how many pieces more a node takes that has room for so many in all; a leaf takes none
abbrev pub free_pieces : {U V : Type 0} → ℕ → PNode U V → ℕ
free_pieces most (inner cs) = most - pending cs
free_pieces most (leaf es) = 0

-- the first of these slots begins at or before the first of the keys, if there is one
abbrev pub BeginsByFirst : {U V X : Type 0} → List (List ℕ × X) → PSlots U V → Type 0
BeginsByFirst [] ss = ⊤
BeginsByFirst (e ∷ es) ss = begins_by ss e.0 ≡ true

module _ {U V : Type 0} (means : U → Option V → Option V) where
  -- so many of the oldest messages ms went into the slots cs, at most one piece each; the slots became ds, and rest is left
  pub record Moved (n : ℕ) (ms rest : List (Msg U V)) (cs ds : PSlots U V) : Type 0 where
    pub within : n ≤ length ms
    pub left : rest ≡ drop n ms
    pub taken : HaveTaken means cs (batches_by_slot None (take n ms) cs) ds
    pub few : piece_count (take n ms) cs ≤ n
    pub still : n ≡ 0 → ds ≡ cs

  -- likewise for the slots of a node; a leaf takes none
  abbrev pub MovedInto : ℕ → List (Msg U V) → List (Msg U V) → PNode U V → PNode U V → Type 0
  MovedInto n ms rest (inner cs) (inner ds) = Moved n ms rest cs ds
  MovedInto n ms rest (inner cs) (leaf es) = ⊥
  MovedInto n ms rest (leaf es) d = (n ≡ 0) × (rest ≡ ms) × (d ≡ leaf es)

  -- the messages went into the slots of the node c, which became d, and d holds at most so many
  abbrev pub ConsumedInto : ℕ → List (Msg U V) → PNode U V → PNode U V → Type 0
  ConsumedInto most ms (inner cs) (inner ds) = HaveTaken means cs (batches_by_slot None ms cs) ds × (pending ds ≤ most)
  ConsumedInto most ms (inner cs) (leaf es) = ⊥
  ConsumedInto most ms (leaf es) d = ⊥

  -- what the reply of a flush says of a slot's messages and its child, before and after
  abbrev pub Sunk : ℕ → StepReply → List (Msg U V) → PNode U V → PNode U V → Type 0
  Sunk most (Did n) ms c d = (1 ≤ n) × (n ≤ length ms) × ConsumedInto most (take n ms) c d
  Sunk most NotThere ms c d = (d ≡ c) × (can_flush_inner (more [] ms c none) ≡ false)
  Sunk most NoRoom ms c d = (d ≡ c) × IsFullBelow most (more [] ms c none)
  Sunk most NoMemory ms c d = d ≡ c
