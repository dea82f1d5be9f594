use Rattle.std.proofs.Common.{ap}
use Rattle.engine.specs.Rule.{Seated}
use Rattle.engine.proofs.Callers.{looks-of}
use Rattle.engine.proofs.locked_state.LockedState.look.Goals as goal

pub returns-clause-looks : goal.returns-clause-looks
returns-clause-looks g c =
    looks-of _ c.args.client.me.0 _ _ _ _ (ap (λ (m : Seated). m.0) c.sync_client-client.ensures.client.1) (ap (λ (m : Seated). m.0) c.learn.ensures.seat.1) c.learn.ensures.reported c.learn.ensures.legal c.requires.announced
