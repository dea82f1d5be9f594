use Rattle.engine.specs.Clients.{watched}
use Rattle.engine.proofs.Turning.{finishes-built, finishes-refused}
use Rattle.engine.proofs.engine_shared.EngineShared.build_and_install.Goals as goal

pub returns-in-Ok-clause-finishes : goal.returns-in-Ok-clause-finishes
returns-in-Ok-clause-finishes g c =
    finishes-built g.J.EngineId.opening c.args.job c.in-Ok.done c.install.result.1 (watched c.args.flusher.me.0) (watched c.install.result.0.me.0) c.in-Ok.ensures.ok c.install.ensures.puts

pub returns-clause-finishes : goal.returns-clause-finishes
returns-clause-finishes g c =
    finishes-refused g.J.EngineId.opening c.args.job c.in-Err.job c.ticket.result.number (watched c.args.flusher.me.0) (watched c.cancel-flusher.result.me.0) c.ticket.ensures c.in-Err.ensures.err c.cancel-flusher.ensures.cancels
