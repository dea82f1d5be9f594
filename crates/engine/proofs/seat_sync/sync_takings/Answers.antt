use Rattle.std.proofs.Common.{sym, subst}
use Rattle.engine.specs.Rule.{Seated}
use Rattle.engine.specs.Takings.{TakenOnce}
use Rattle.engine.proofs.seat_sync.sync_takings.Goals as goal

pub returns-clause-once : goal.returns-clause-once
returns-clause-once g c = subst (λ (m : Seated). TakenOnce m.0.seen_takings) (sym c.learn_flusher.ensures.seat.1) c.learn_flusher.ensures.once
