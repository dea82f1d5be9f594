use Rattle.engine.specs.Ends.{HasEach}
use Rattle.engine.proofs.engine.has_each.Given as goal

abbrev pub invariant-loop-number : goal.invariant-loop-number
invariant-loop-number g l = HasEach l.number l.clients
