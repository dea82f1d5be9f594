-- What must hold before messages are put into slots, and where slots are searched.
use Rattle.std.specs.Prelude.{◌≡◌, ℕ, ◌≤◌, true, List, [], ◌∷◌, length, Option, None, ⊤}
use Rattle.std.proofs.Common.{zero, suc}
use Rattle.std.specs.Global.{Vec}
use Rattle.pathkey.specs.Keys.{is_below}
use Rattle.message.specs.declared.msg.Msg.{Msg}
use Rattle.node.specs.declared.node.Slot.{Slot}
use Rattle.node.specs.Pure.{PNode, leaf, inner, PSlots, none, more}
use Rattle.node.specs.Lawful.{next_lo, starts_at, TouchOnly, Rises}

module _ {U V : Type 0} where
  -- each slot begins before the next
  abbrev pub AreRising : PSlots U V → Type 0
  AreRising none = ⊤
  AreRising (more lo ms n ss) = (is_below lo (next_lo None ss) ≡ true) × AreRising ss

  -- the message touches only keys from where the first slot begins up to hi
  abbrev pub Fits : Option (List ℕ) → PSlots U V → Msg U V → Type 0
  Fits hi none m = ⊥
  Fits hi (more lo old n ss) m = TouchOnly lo hi (m ∷ [])

  abbrev pub AllFit : Option (List ℕ) → PSlots U V → List (Msg U V) → Type 0
  AllFit hi ss [] = ⊤
  AllFit hi ss (m ∷ ms) = Fits hi ss m × AllFit hi ss ms

  -- the messages of a list
  abbrev pub see_list : Vec (Msg U V) → List (Msg U V)
  see_list v = v.items

  -- each slot has room for its part
  abbrev pub HasRoom : List (Slot U V) → List (Vec (Msg U V)) → Type 0
  HasRoom [] ps = ⊤
  HasRoom (s ∷ ss) [] = ⊤
  HasRoom (s ∷ ss) (p ∷ ps) = (length p.items ≤ s.pending.1) × HasRoom ss ps

  -- the slot with this number has room for so many messages
  abbrev pub HasRoomAt : ℕ → ℕ → List (Slot U V) → Type 0
  HasRoomAt i n [] = ⊥
  HasRoomAt zero n (s ∷ ss) = n ≤ s.pending.1
  HasRoomAt (suc i) n (s ∷ ss) = HasRoomAt i n ss

  -- a node whose slots hold every key
  abbrev pub IsRoot : PNode U V → Type 0
  IsRoot (leaf es) = ⊥
  IsRoot (inner ss) = starts_at [] ss × AreRising ss

  -- pivots and keys rise in the node and in all below, so that slots and entries are found by a search
  abbrev mutual
    pub IsSearchable : PNode U V → Type 0
    IsSearchable (leaf es) = Rises [] None es
    IsSearchable (inner ss) = AreRising ss × AreSearchable ss

    pub AreSearchable : PSlots U V → Type 0
    AreSearchable none = ⊤
    AreSearchable (more lo ms n ss) = IsSearchable n × AreSearchable ss
