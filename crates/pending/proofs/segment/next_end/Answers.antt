use Rattle.std.proofs.Common.{ap, inl, inr}
use Rattle.std.specs.Option.{option_copied}
use Rattle.pending.specs.MsgRef.{borrowed_msg}
use Rattle.message.proofs.StretchEnds.{range_delete_end, put_or_edit_end}
use Rattle.pending.proofs.segment.next_end.Goals as goal

pub returns-in-Put : goal.returns-in-Put
returns-in-Put g c = put_or_edit_end c.args.from.now c.in-Put.key.now (borrowed_msg c.args.msg) (option_copied c.ahead_of.result) (inl (c.in-Put.field-1.now, ap borrowed_msg c.in-Put.is)) c.ahead_of.ensures

pub returns-in-Del : goal.returns-in-Del
returns-in-Del g c = put_or_edit_end c.args.from.now c.in-Del.key.now (borrowed_msg c.args.msg) (option_copied c.ahead_of-in-Del.result) (inr (inl (ap borrowed_msg c.in-Del.is))) c.ahead_of-in-Del.ensures

pub returns-in-DelRange : goal.returns-in-DelRange
returns-in-DelRange g c = range_delete_end c.args.from.now (record { lo = c.in-DelRange.lo.now; hi = option_copied c.in-DelRange.hi }) (borrowed_msg c.args.msg) (option_copied c.range_end.result) (ap borrowed_msg c.in-DelRange.is) c.range_end.ensures

pub returns-in-Edit : goal.returns-in-Edit
returns-in-Edit g c = put_or_edit_end c.args.from.now c.in-Edit.key.now (borrowed_msg c.args.msg) (option_copied c.ahead_of-in-Edit.result) (inr (inr (c.in-Edit.field-1.now, ap borrowed_msg c.in-Edit.is))) c.ahead_of-in-Edit.ensures
