use Rattle.std.proofs.Common.{List}
use Rattle.delta.specs.Deltas.{Command}
use Rattle.delta.specs.Walks.{Puts}
use Rattle.delta.proofs.print.put_commands.Given as goal

abbrev pub invariant-loop : goal.invariant-loop
invariant-loop g l = (cs : List Command) × Puts cs (g.W.Write.contents l.fn.writer) (g.W.Write.contents l.writer) l.fn.old l.fn.new l.old l.new
