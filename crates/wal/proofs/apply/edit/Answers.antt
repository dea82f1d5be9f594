use Rattle.wal.proofs.Making.{edits_made}
use Rattle.wal.proofs.apply.edit.Goals as goal

pub returns-in-Ok : goal.returns-in-Ok
returns-in-Ok c = edits_made c.args.text.now c.args.volume.now c.apply_edits.new.volume c.in-Ok.ensures.applied
