-- A message of a tail.
use Rattle.message.specs.declared.msg.Msg.{Msg}
use Rattle.message.specs.declared.msg.Msg.TheVariants.{DelRange}
use Rattle.pending.specs.declared.buffered_msg.MsgStorage.{MsgStorage}
use Rattle.pending.specs.declared.buffered_msg.MsgStorage.TheVariants.{Shared, Range, Alone}

module _ {U V : Type 0} where
  -- the message that is stored there
  abbrev pub msg_at : MsgStorage U V → Msg U V
  msg_at (Shared s) = s.value
  msg_at (Range p) = DelRange p
  msg_at (Alone m) = m
