use Rattle.edits.proofs.Looking.{no_entry}
use Rattle.edits.proofs.perform.parent_mtime.Goals as goal

pub returns-in_default : goal.returns-in_default
returns-in_default c = no_entry c.args.volume.now c.indexes.result.now c.args.path.now c.in_ok-modified.field-0 c.in_default.field-0 c.indexes.ensures c.in_ok-modified.ensures.moment c.in_default.is
