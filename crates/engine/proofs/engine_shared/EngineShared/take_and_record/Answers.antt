use Rattle.std.proofs.Common.{inl, refl}
use Rattle.engine.specs.Clients.{watched}
use Rattle.engine.proofs.Turning.{takes-in}
use Rattle.engine.proofs.engine_shared.EngineShared.take_and_record.Goals as goal

pub returns-in-Some-clause-takes : goal.returns-in-Some-clause-takes
returns-in-Some-clause-takes g c = takes-in g.J.EngineId.opening c.take_and_record.result.1 (watched c.args.flusher.me.0) (watched c.take_and_record.result.0.me.0) c.take_and_record.ensures.held c.take_and_record.ensures.taken

pub returns-clause-takes : goal.returns-clause-takes
returns-clause-takes g c = inl refl
