use Rattle.std.proofs.Common.{refl}
use Rattle.textio.proofs.Known.{on_ok}
use Rattle.delta.proofs.WalkFacts.{read_noted}
use Rattle.delta.proofs.line_cursor.LineCursor.read.Goals as goal

pub returns : goal.returns
returns c = on_ok _ _ (read_noted c.args.self.now _ c.gather.new.self c.note_entry.new.self refl refl c.in_ok-gather.ensures c.note_entry.ensures.lines c.note_entry.ensures.same)
