use Rattle.flush.proofs.PlaceChanges.{set_gone, set_still}
use Rattle.flush.proofs.room.del_at.Goals as goal

pub returns-in-Ok-clause-set : goal.returns-in-Ok-clause-set
returns-in-Ok-clause-set g c = λ k place. set_gone k c.args.entries.now.items c.remove.new.self.items c.in-Ok.i c.args.place c.remove.ensures.items c.in-Ok.is place c.requires.rising

pub returns-in-Err-clause-set : goal.returns-in-Err-clause-set
returns-in-Err-clause-set g c = λ k place. set_still k c.args.entries.now.items c.in-Err.i c.args.place c.in-Err.is place
