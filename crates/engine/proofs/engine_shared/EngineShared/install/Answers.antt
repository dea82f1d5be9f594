use Rattle.std.proofs.Common.{inl, refl}
use Rattle.engine.specs.Clients.{watched}
use Rattle.engine.proofs.Turning.{puts-in}
use Rattle.engine.proofs.engine_shared.EngineShared.install.Goals as goal

pub returns-in-Some-clause-puts : goal.returns-in-Some-clause-puts
returns-in-Some-clause-puts g c = puts-in g.J.EngineId.opening c.args.done c.install.result.1 (watched c.args.flusher.me.0) (watched c.install.result.0.me.0) c.install.ensures.held

pub returns-in-None-clause-puts : goal.returns-in-None-clause-puts
returns-in-None-clause-puts g c = inl refl
