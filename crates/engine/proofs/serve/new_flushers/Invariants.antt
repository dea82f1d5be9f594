use Rattle.std.proofs.Common.{◌≡◌}
use Rattle.engine.proofs.serve.new_flushers.Given as goal

abbrev pub invariant-loop : goal.invariant-loop
invariant-loop g l = l.engine ≡ l.initial.engine
