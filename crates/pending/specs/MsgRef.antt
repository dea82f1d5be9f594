-- The borrowed message.
use Rattle.std.specs.Option.{option_copied}
use Rattle.message.specs.declared.msg.Msg.{Msg}
use Rattle.message.specs.declared.msg.Msg.TheVariants as msg
use Rattle.pending.specs.declared.msg_ref.MsgRef.{MsgRef}
use Rattle.pending.specs.declared.msg_ref.MsgRef.TheVariants.{Put, Del, DelRange, Edit}

module _ {U V : Type 0} where
  abbrev pub borrowed_msg : MsgRef U V → Msg U V
  borrowed_msg (Put k v) = msg.Put k.now v.now
  borrowed_msg (Del k) = msg.Del k.now
  borrowed_msg (DelRange lo hi) = msg.DelRange (record { lo = lo.now; hi = option_copied hi })
  borrowed_msg (Edit k u) = msg.Edit k.now u.now
