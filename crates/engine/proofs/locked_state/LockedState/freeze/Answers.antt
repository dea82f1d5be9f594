use Rattle.std.proofs.Common.{List, subst}
use Rattle.std.specs.Prelude.{IfOk}
use Rattle.engine.specs.Histories.{Entry}
use Rattle.engine.specs.Seats.{Shows}
use Rattle.engine.proofs.Histories.{shows-of}
use Rattle.engine.proofs.locked_state.LockedState.freeze.Goals as goal

pub returns : goal.returns
returns g c =
    let holds = c.self.invariant.1 in
    subst (λ (h : List Entry). IfOk c.freeze.result (λ f. Shows g.J.EngineId.opening h f)) c.self.view_is
    (shows-of g.J.EngineId.opening c.self.inside.volume c.self.inside.seat.me.0.history c.freeze.result holds.legal holds.stands c.freeze.ensures.means)
