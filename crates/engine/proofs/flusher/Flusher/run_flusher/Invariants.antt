use Rattle.engine.specs.Clients.{Watches}
use Rattle.engine.proofs.flusher.Flusher.run_flusher.Given as goal

abbrev pub invariant-loop : goal.invariant-loop
invariant-loop g l = Watches g.J.EngineId.opening l.initial.self l.self
