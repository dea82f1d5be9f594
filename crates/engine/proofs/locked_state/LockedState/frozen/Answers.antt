use Rattle.std.proofs.Common.{List, subst}
use Rattle.engine.specs.Histories.{Entry}
use Rattle.engine.specs.Clients.{FindsAfter}
use Rattle.engine.proofs.Histories.{finds-of}
use Rattle.engine.proofs.locked_state.LockedState.frozen.Goals as goal

pub returns : goal.returns
returns g c =
    let holds = c.self.invariant.1 in
    subst (λ (h : List Entry). FindsAfter g.J.EngineId.opening h c.args.name.now c.frozen.result) c.self.view_is
    (finds-of g.J.EngineId.opening c.self.inside.volume c.self.inside.seat.me.0.history c.args.name.now c.frozen.result holds.legal holds.stands c.frozen.ensures.means)
