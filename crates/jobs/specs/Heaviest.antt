-- The slot of which a job would move the most messages.
use Rattle.std.specs.Prelude.{◌≡◌, ℕ, ◌≤◌, ◌<◌, List, [], ◌∷◌, length, min, if◌then◌else◌, ⊤}
use Rattle.std.proofs.Common.{zero, suc}
use Rattle.message.specs.declared.msg.Msg.{Msg}
use Rattle.flush.specs.Sunk.{free_pieces}
use Rattle.node.specs.Pure.{PNode, leaf, inner, PSlots, none, more, PTree}
use Rattle.jobs.specs.declared.mark.Mark.{Mark}
use Rattle.jobs.specs.Replies.{IsBacklog, can_take_first}

-- each of these numbers is at most n
abbrev pub AreAtMost : ℕ → List ℕ → Type 0
AreAtMost n [] = ⊤
AreAtMost n (x ∷ xs) = (x ≤ n) × AreAtMost n xs

-- number i of the list is n, each before it is less, and each behind it is at most as much
abbrev pub IsFirstGreatest : ℕ → ℕ → List ℕ → Type 0
IsFirstGreatest i n [] = ⊥
IsFirstGreatest zero n (x ∷ xs) = (x ≡ n) × AreAtMost n xs
IsFirstGreatest (suc i) n (x ∷ xs) = (x < n) × IsFirstGreatest i n xs

module _ {U V : Type 0} where
  -- how many messages a job of the slot would move at most, where a node may hold `most`: as many of those that are pending
  -- there as have room in its child, and 0 if no job can be taken of it
  abbrev pub movable : List Mark → ℕ → List ℕ → List (Msg U V) → PNode U V → ℕ
  movable ms most lo msgs child = if can_take_first ms (more lo msgs child none) then min (length msgs) (free_pieces most child) else 0

  -- the same of each of these slots, in their order
  abbrev pub movable_each : List Mark → ℕ → PSlots U V → List ℕ
  movable_each ms most none = []
  movable_each ms most (more lo msgs child ss) = movable ms most lo msgs child ∷ movable_each ms most ss

  -- the same of each slot of a root
  abbrev pub movable_in : List Mark → ℕ → PNode U V → List ℕ
  movable_in ms most (leaf es) = []
  movable_in ms most (inner ss) = movable_each ms most ss

  -- no job that can be taken of the tree's root would move a message
  abbrev pub MovesNone : List Mark → PTree U V → Type 0
  MovesNone ms t = AreAtMost 0 (movable_in ms t.shape.pending t.root)

  -- a job can be taken of the slot number i of the tree's root and would move at most n messages, where a node may hold `most`;
  -- a job of a slot before it would move fewer, and one of a slot behind it no more
  pub record IsHeaviest (i n most : ℕ) (ms : List Mark) (t : PTree U V) : Type 0 where
    pub backlog : IsBacklog i n most ms t.root
    pub room : most ≡ t.shape.pending
    pub first : IsFirstGreatest i n (movable_in ms most t.root)
