use Rattle.std.proofs.Common.{ap}
use Rattle.std.proofs.lemmas.Option.{IfSome_then}
use Rattle.message.specs.Effects.{point_key}
use Rattle.pending.specs.MsgRef.{borrowed_msg}
use Rattle.flush.proofs.PlaceChanges.{at_put, at_del, at_edit, within_place}
use Rattle.flush.proofs.room.apply_at.Goals as goal

pub returns-in-Put-clause-some : goal.returns-in-Put-clause-some
returns-in-Put-clause-some g c = IfSome_then c.put_at.result c.put_at.ensures.some (λ p h. at_put g.U.Update.means (borrowed_msg c.args.msg.now) c.in-Put.key.now p c.args.entries.now.items c.put_at.new.entries.items c.in-Put.value.now (ap borrowed_msg c.in-Put.is) h)

pub del_at-requires-clause-bound : goal.del_at-requires-clause-bound
del_at-requires-clause-bound g c = within_place c.in-Del.field-0.now c.args.entries.now.items c.args.place (c.requires.place c.in-Del.field-0.now (ap (λ m. point_key (borrowed_msg m)) c.in-Del.is))

pub returns-in-Del-clause-some : goal.returns-in-Del-clause-some
returns-in-Del-clause-some g c =
    let key = c.in-Del.field-0.now in
    at_del g.U.Update.means (borrowed_msg c.args.msg.now) key c.del_at.result c.args.entries.now.items c.del_at.new.entries.items (ap borrowed_msg c.in-Del.is) (c.del_at.ensures.set key (c.requires.place key (ap (λ m. point_key (borrowed_msg m)) c.in-Del.is)))

pub returns-in-Edit-clause-some : goal.returns-in-Edit-clause-some
returns-in-Edit-clause-some g c = IfSome_then c.edit_at.result c.edit_at.ensures.some (λ p h. at_edit g.U.Update.means (borrowed_msg c.args.msg.now) c.in-Edit.key.now p c.args.entries.now.items c.edit_at.new.entries.items c.in-Edit.update.now (ap borrowed_msg c.in-Edit.is) h)
