use Rattle.std.proofs.Common.{List, ap, sym, subst}
use Rattle.engine.specs.Clients.{watched}
use Rattle.engine.specs.Rule.{Seated}
use Rattle.engine.specs.Takings.{KnowsMarks}
use Rattle.engine.specs.Turns.{Relieves}
use Rattle.volume.specs.Volumes.{live_of}
use Rattle.volume.specs.declared.job.Job.{Job}
use Rattle.engine.proofs.Histories.{holds-same, holds-still, seat-still}
use Rattle.engine.proofs.Takings.{knows-still}
use Rattle.engine.proofs.Turning.{in-hold}
use Rattle.engine.proofs.locked_state.LockedState.do_step.Goals as goal

pub invariant_of-self : goal.invariant_of-self
invariant_of-self g c =
    let s = c.sync_takings-flusher in
    let r = c.compact_step-reply in
    let i = c.self.invariant in (
      seat-still g.J.EngineId.table g.J.EngineId.opening c.self.inside.seat s.new.engine s.ensures.engine.0 s.ensures.engine.1 i.0,
      holds-same g.J.EngineId.opening g.J.EngineId.clients c.self.inside.seat.me.0.history s.new.engine.me.0.history r.new.volume c.self.inside.count (ap (λ (m : Seated). m.0.history) s.ensures.engine.1)
          (holds-still g.J.EngineId.opening g.J.EngineId.clients c.self.inside.volume r.new.volume c.self.inside.seat.me.0.history c.self.inside.count i.1 r.ensures.means),
      subst (λ (js : List Job). KnowsMarks js (live_of r.new.volume)) (sym (ap (λ (m : Seated). m.0.takings) s.ensures.engine.1))
          (knows-still c.self.inside.seat.me.0.takings (live_of c.self.inside.volume) (live_of r.new.volume) i.2 r.ensures.spares),
    )

pub returns-clause-held : goal.returns-clause-held
returns-clause-held g c =
    let s = c.sync_takings-flusher in
    let r = c.compact_step-reply in
    let i = c.self.invariant in
    in-hold g.J.EngineId.opening g.J.EngineId.clients (watched c.args.flusher.me.0) (watched s.result.me.0) c.self.inside.seat.me.0.history c.self.inside.seat.me.0.takings c.self.inside.count c.self.inside.volume r.new.volume
    (Relieves r.result) s.ensures.watches s.ensures.seen.0 s.ensures.seen.1 i.1 r.ensures.means
    (knows-still c.self.inside.seat.me.0.takings (live_of c.self.inside.volume) (live_of r.new.volume) i.2 r.ensures.spares)
    c.assert_invariant.ensures c.assert_invariant-2.ensures r.ensures.relieves
