use Rattle.std.proofs.Common.{inl, inr, refl}
use Rattle.engine.proofs.engine_shared.EngineShared.cancel.Goals as goal

pub returns-in-Some-clause-cancels : goal.returns-in-Some-clause-cancels
returns-in-Some-clause-cancels g c = inr c.cancel.ensures.held

pub returns-clause-cancels : goal.returns-clause-cancels
returns-clause-cancels g c = inl refl
