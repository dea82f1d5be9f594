use Rattle.flush.proofs.PlaceChanges.{set_unmade}
use Rattle.flush.proofs.room.edit_new.Goals as goal

pub returns-in-Ok-None-clause-some : goal.returns-in-Ok-None-clause-some
returns-in-Ok-None-clause-some g c = set_unmade c.args.key.now c.args.entries.now.items c.args.i (g.U.Update.means c.args.update.now) _ c.in-Ok-None.field-0 c.in-Ok-None.field-0-is c.in-Ok-None.ensures c.as_ref.ensures.value c.requires.gap
