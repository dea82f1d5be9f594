use Rattle.std.proofs.Common.{List, ap, sym, ◌∙◌, subst}
use Rattle.engine.specs.Clients.{watched}
use Rattle.engine.specs.Rule.{Seated}
use Rattle.engine.specs.Takings.{IsTaken, KnowsMarks, Picks}
use Rattle.volume.specs.Jobs.{IfTaken}
use Rattle.volume.specs.Volumes.{live_of}
use Rattle.volume.specs.declared.job.Job.{Job}
use Rattle.engine.proofs.Histories.{holds-same, holds-still, seat-still}
use Rattle.engine.proofs.Turning.{in-hold}
use Rattle.engine.proofs.locked_state.LockedState.take_and_record.Goals as goal

pub invariant_of-self : goal.invariant_of-self
invariant_of-self g c =
    let t = c.take_recorded-reply in
    let s = c.sync_takings-flusher in
    let i = c.self.invariant in (
      seat-still g.J.EngineId.table g.J.EngineId.opening t.new.engine s.new.engine s.ensures.engine.0 s.ensures.engine.1 t.ensures.engine,
      holds-same g.J.EngineId.opening g.J.EngineId.clients c.self.inside.seat.me.0.history s.new.engine.me.0.history t.new.volume c.self.inside.count (ap (λ (m : Seated). m.0.history) s.ensures.engine.1 ∙ t.ensures.history)
          (holds-still g.J.EngineId.opening g.J.EngineId.clients c.self.inside.volume t.new.volume c.self.inside.seat.me.0.history c.self.inside.count i.1 t.ensures.means),
      subst (λ (js : List Job). KnowsMarks js (live_of t.new.volume)) (sym (ap (λ (m : Seated). m.0.takings) s.ensures.engine.1)) t.ensures.knows,
    )

pub returns-clause-taken : goal.returns-clause-taken
returns-clause-taken g c =
    let t = c.take_recorded-reply in
    subst (λ (js : List Job). IfTaken t.result (λ job. IsTaken js job)) (sym c.sync_takings-flusher.ensures.seen.1) t.ensures.taken

pub returns-clause-held : goal.returns-clause-held
returns-clause-held g c =
    let t = c.take_recorded-reply in
    let s = c.sync_takings-flusher in
    in-hold g.J.EngineId.opening g.J.EngineId.clients (watched c.args.flusher.me.0) (watched s.result.me.0) c.self.inside.seat.me.0.history t.new.engine.me.0.takings c.self.inside.count c.self.inside.volume t.new.volume
    (Picks t.result) s.ensures.watches (s.ensures.seen.0 ∙ t.ensures.history) s.ensures.seen.1 c.self.invariant.1 t.ensures.means t.ensures.knows c.assert_invariant.ensures c.assert_invariant-2.ensures t.ensures.picks
