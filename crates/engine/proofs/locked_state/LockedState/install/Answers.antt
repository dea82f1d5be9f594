use Rattle.std.proofs.Common.{List, ap, sym, subst}
use Rattle.engine.specs.Clients.{watched}
use Rattle.engine.specs.Histories.{StartsWith}
use Rattle.engine.specs.Rule.{Seated}
use Rattle.engine.specs.Takings.{KnowsMarks}
use Rattle.engine.specs.Turns.{Puts}
use Rattle.volume.specs.Volumes.{live_of}
use Rattle.volume.specs.declared.job.Job.{Job}
use Rattle.engine.proofs.Histories.{holds-same, holds-still, seat-still}
use Rattle.engine.proofs.Takings.{fits-seen, knows-still}
use Rattle.engine.proofs.Turning.{in-hold}
use Rattle.engine.proofs.locked_state.LockedState.install.Goals as goal

pub install_or_cancel-reply-requires : goal.install_or_cancel-reply-requires
install_or_cancel-reply-requires g c =
    let s = c.sync_takings-flusher.ensures in
    fits-seen c.self.inside.seat.me.0.takings c.args.flusher.me.0.seen_takings (live_of c.self.inside.volume) c.args.done c.self.invariant.2
    (subst (λ (js : List Job). StartsWith js c.args.flusher.me.0.seen_takings) s.seen.1 s.watches.2) c.requires.built

pub invariant_of-self : goal.invariant_of-self
invariant_of-self g c =
    let s = c.sync_takings-flusher in
    let p = c.install_or_cancel-reply in
    let i = c.self.invariant in (
      seat-still g.J.EngineId.table g.J.EngineId.opening c.self.inside.seat s.new.engine s.ensures.engine.0 s.ensures.engine.1 i.0,
      holds-same g.J.EngineId.opening g.J.EngineId.clients c.self.inside.seat.me.0.history s.new.engine.me.0.history p.new.volume c.self.inside.count (ap (λ (m : Seated). m.0.history) s.ensures.engine.1)
          (holds-still g.J.EngineId.opening g.J.EngineId.clients c.self.inside.volume p.new.volume c.self.inside.seat.me.0.history c.self.inside.count i.1 p.ensures.means),
      subst (λ (js : List Job). KnowsMarks js (live_of p.new.volume)) (sym (ap (λ (m : Seated). m.0.takings) s.ensures.engine.1))
          (knows-still c.self.inside.seat.me.0.takings (live_of c.self.inside.volume) (live_of p.new.volume) i.2 p.ensures.spares),
    )

pub returns-clause-held : goal.returns-clause-held
returns-clause-held g c =
    let s = c.sync_takings-flusher in
    let p = c.install_or_cancel-reply in
    let i = c.self.invariant in
    in-hold g.J.EngineId.opening g.J.EngineId.clients (watched c.args.flusher.me.0) (watched s.result.me.0) c.self.inside.seat.me.0.history c.self.inside.seat.me.0.takings c.self.inside.count c.self.inside.volume p.new.volume
    (Puts c.args.done p.result) s.ensures.watches s.ensures.seen.0 s.ensures.seen.1 i.1 p.ensures.means
    (knows-still c.self.inside.seat.me.0.takings (live_of c.self.inside.volume) (live_of p.new.volume) i.2 p.ensures.spares)
    c.assert_invariant.ensures c.assert_invariant-2.ensures p.ensures.puts
