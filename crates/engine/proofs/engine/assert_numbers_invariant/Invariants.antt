use Rattle.std.proofs.Common.{take}
use Rattle.engine.specs.Ends.{Within}
use Rattle.engine.proofs.engine.assert_numbers_invariant.Given as goal

abbrev pub invariant-loop-client : goal.invariant-loop-client
invariant-loop-client g l = Within g.J.EngineId.clients (take l.client-index l.clients)
