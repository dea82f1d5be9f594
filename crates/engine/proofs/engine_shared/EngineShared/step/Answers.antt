use Rattle.std.proofs.Common.{inl, refl}
use Rattle.engine.specs.Clients.{watched}
use Rattle.engine.proofs.Turning.{relieves-in}
use Rattle.engine.proofs.engine_shared.EngineShared.step.Goals as goal

pub returns-in-Some-clause-relieves : goal.returns-in-Some-clause-relieves
returns-in-Some-clause-relieves g c = relieves-in g.J.EngineId.opening c.do_step.result.1 (watched c.args.flusher.me.0) (watched c.do_step.result.0.me.0) c.do_step.ensures.held

pub returns-clause-relieves : goal.returns-clause-relieves
returns-clause-relieves g c = inl refl
