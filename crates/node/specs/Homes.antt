-- The slot that takes a message as it is.
use Rattle.std.specs.Prelude.{◌≡◌, ℕ, [], ◌∷◌, None}
use Rattle.message.specs.declared.msg.Msg.{Msg}
use Rattle.node.specs.Appended.{batches_by_slot, all_at}
use Rattle.node.specs.Pure.{PSlots}

module _ {U V : Type 0} where
  -- the slot with this number takes the message as it is, and no other takes a part of it
  abbrev pub IsHome : ℕ → Msg U V → PSlots U V → Type 0
  IsHome i m ss = all_at i (m ∷ []) ss ≡ batches_by_slot None (m ∷ []) ss
