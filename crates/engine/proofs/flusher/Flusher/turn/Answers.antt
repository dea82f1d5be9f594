use Rattle.std.proofs.Common.{sym, ap, ◌∙◌}
use Rattle.engine.specs.Rule.{Seated}
use Rattle.engine.specs.Turns.{Turns}
use Rattle.engine.proofs.Callers.{watches-after, stays-after}
use Rattle.engine.proofs.Turning.{seen-after}
use Rattle.engine.proofs.flusher.Flusher.turn.Goals as goal

pub into_seat-seat-requires : goal.into_seat-seat-requires
into_seat-seat-requires g c = (_, ap (λ b. b.views) c.replace.ensures.value ∙ c.self.invariant.1.0)

pub invariant_of-self : goal.invariant_of-self
invariant_of-self g c =
    let i = c.self.invariant in
    let p = c.run_turn-seat.ensures in
    let was = ap (λ b. b.views) (sym c.replace.ensures.value) ∙ c.into_seat-seat.ensures.2 in
    let now = c.into_badge.ensures in
    (now.0 ∙ p.flusher.0, stays-after _ _ _ _ _ i.1 was p.watches now.2 (ap (λ (m : Seated). m.0) p.flusher.1))

pub returns-clause-watches : goal.returns-clause-watches
returns-clause-watches g c =
    let i = c.self.invariant in
    let p = c.run_turn-seat.ensures in
    let was = ap (λ b. b.views) (sym c.replace.ensures.value) ∙ c.into_seat-seat.ensures.2 in
    watches-after _ _ _ _ _ i.1 was p.watches c.into_badge.ensures.2 _ c.self.view_is

pub returns-clause-turned : goal.returns-clause-turned
returns-clause-turned g c =
    let was = ap (λ b. b.views) (sym c.replace.ensures.value) ∙ c.into_seat-seat.ensures.2 in
    seen-after (Turns g.J.EngineId.opening c.run_turn-seat.result.1) _ _ _ _ was c.into_badge.ensures.2 c.run_turn-seat.ensures.turned _ c.self.view_is
