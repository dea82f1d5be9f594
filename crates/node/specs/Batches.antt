-- The messages of an append as the slots of a root take them.
use Rattle.std.specs.Prelude.{ℕ, List, [], ◌∷◌, length, map, None, ⊤}
use Rattle.message.specs.declared.msg.Msg.{Msg}
use Rattle.node.specs.declared.node.Slot.{Slot}
use Rattle.node.specs.declared.node.batch.Batch.{Batch}
use Rattle.node.specs.declared.node.batch.Batch.TheVariants.{Whole, Parts}
use Rattle.node.specs.Appended.{batches_by_slot}
use Rattle.node.specs.Homes.{IsHome}
use Rattle.node.specs.Pure.{PSlots}
use Rattle.node.specs.Searchable.{HasRoom, HasRoomAt, see_list}
use Rattle.node.specs.See.{seen_slots}

module _ {U V : Type 0} where
  -- the part of each slot
  abbrev pub batch_parts : Batch U V → PSlots U V → List (List (Msg U V))
  batch_parts (Whole v homes) ss = batches_by_slot None v.items ss
  batch_parts (Parts v) ss = map see_list v.items

  -- for each message a number stands in its place, of the slot that takes it as it is and has room for so many messages
  abbrev pub HaveHomes : ℕ → List (Slot U V) → List (Msg U V) → List ℕ → Type 0
  HaveHomes n xs [] homes = ⊤
  HaveHomes n xs (m ∷ ms) [] = ⊥
  HaveHomes n xs (m ∷ ms) (i ∷ homes) = IsHome i m (seen_slots xs) × HasRoomAt i n xs × HaveHomes n xs ms homes

  -- a slot that had room for so many messages has it still
  abbrev pub KeepsRoom : ℕ → List (Slot U V) → List (Slot U V) → Type 0
  KeepsRoom n xs ys = (i : ℕ) → HasRoomAt i n xs → HasRoomAt i n ys

  -- each slot has room for its part
  abbrev pub HasRoomFor : List (Slot U V) → Batch U V → Type 0
  HasRoomFor xs (Whole v homes) = HaveHomes (length v.items) xs v.items homes
  HasRoomFor xs (Parts v) = HasRoom xs v.items
