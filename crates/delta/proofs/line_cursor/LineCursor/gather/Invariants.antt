use Rattle.delta.proofs.WalkFacts.{InLine}
use Rattle.delta.proofs.line_cursor.LineCursor.gather.Given as goal

abbrev pub invariant-loop : goal.invariant-loop
invariant-loop l = InLine l.fn.self l.self
