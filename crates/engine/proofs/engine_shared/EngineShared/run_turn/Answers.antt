use Rattle.std.proofs.Common.{inl, subst}
use Rattle.volume.specs.declared.job.TakeReply.{TakeReply}
use Rattle.engine.specs.Clients.{watched}
use Rattle.engine.specs.Turns.{TakesIn}
use Rattle.engine.proofs.Callers.{watches-trans}
use Rattle.engine.proofs.Turning.{turns-job}
use Rattle.engine.proofs.engine_shared.EngineShared.run_turn.Goals as goal

pub returns-in-Taken-clause-watches : goal.returns-in-Taken-clause-watches
returns-in-Taken-clause-watches g c = watches-trans _ _ _ _ c.take_and_record-flusher.ensures.watches c.build_and_install.ensures.watches

pub returns-in-Taken-clause-turned : goal.returns-in-Taken-clause-turned
returns-in-Taken-clause-turned g c =
    let o = g.J.EngineId.opening in
    let v = watched c.args.flusher.me.0 in
    let between = watched c.take_and_record-flusher.result.0.me.0 in
    turns-job o c.build_and_install.result.1 v (watched c.build_and_install.result.0.me.0)
    (c.in-Taken.job, between, subst (λ (r : TakeReply). TakesIn o r v between) c.in-Taken.is c.take_and_record-flusher.ensures.takes, c.build_and_install.ensures.finishes)

pub returns-in-NoMemory-clause-turned : goal.returns-in-NoMemory-clause-turned
returns-in-NoMemory-clause-turned g c =
    let o = g.J.EngineId.opening in
    inl (subst (λ (r : TakeReply). TakesIn o r (watched c.args.flusher.me.0) (watched c.take_and_record-flusher.result.0.me.0)) c.in-NoMemory.is c.take_and_record-flusher.ensures.takes)
