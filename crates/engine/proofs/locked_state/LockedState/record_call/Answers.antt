use Rattle.std.proofs.Common.{◌≡◌, ◌+◌, ◌<◌, ◌%◌, ◌^◌, length, ◌∷◌, ◌++◌, [], List, ap, ◌∙◌, sym, subst}
use Rattle.engine.specs.Rule.{Seated}
use Rattle.engine.specs.Histories.{FitsAfter, Entry, entry}
use Rattle.engine.specs.Takings.{KnowsMarks}
use Rattle.volume.specs.Volumes.{live_of}
use Rattle.volume.specs.declared.job.Job.{Job}
use Rattle.engine.proofs.Histories.{holds-next, fits-after}
use Rattle.engine.proofs.Takings.{knows-still}
use Rattle.engine.proofs.locked_state.LockedState.record_call.Goals as goal

pub record_call-client-requires-clause-fits : goal.record_call-client-requires-clause-fits
record_call-client-requires-clause-fits g c =
    let h : List Entry = c.self.inside.seat.me.0.history in
    let same = ap (λ (m : Seated). m.0.history) c.sync_client-client.ensures.engine.1 in
    subst (λ (l : List Entry). FitsAfter g.J.EngineId.opening l (g.A.Operation.event c.args.execute.now) (g.A.Operation.answer c.execute-reply.result)) (sym same)
    (fits-after g.J.EngineId.opening c.self.inside.volume c.execute-reply.new.volume h (g.A.Operation.event c.args.execute.now) (g.A.Operation.answer c.execute-reply.result) c.self.invariant.1.stands c.execute-reply.ensures.leads)

pub invariant_of-self : goal.invariant_of-self
invariant_of-self g c =
    let h : List Entry = c.self.inside.seat.me.0.history in
    let same = ap (λ (m : Seated). m.0.history) c.sync_client-client.ensures.engine.1 in
    let by : c.announce.new.client.me.0.client ≡ c.args.client.me.0.client =
    ap (λ (m : Seated). m.0.client) c.announce.ensures.seat.1 ∙ ap (λ (m : Seated). m.0.client) c.sync_client-client.ensures.client.1 in
    let mine : c.announce.new.client.me.0.client < g.J.EngineId.clients = subst (λ x. x < g.J.EngineId.clients) (sym by) c.requires.client.1 in (
      c.record_call-client.ensures.engine,
      holds-next g.J.EngineId.opening g.J.EngineId.clients c.self.inside.volume c.execute-reply.new.volume h c.record_call-client.new.engine.me.0.history c.announce.new.client.me.0.client
          (g.A.Operation.event c.args.execute.now) (g.A.Operation.answer c.execute-reply.result) c.self.inside.count c.record_call-client.result.1 c.self.invariant.1 c.execute-reply.ensures.leads mine
          (c.record_call-client.ensures.history ∙ ap (λ (l : List Entry). l ++ entry c.announce.new.client.me.0.client (g.A.Operation.event c.args.execute.now) (g.A.Operation.answer c.execute-reply.result) ∷ []) same)
          (c.record_call-client.ensures.count ∙ ap (λ (l : List Entry). (length l + 1) % 2 ^ 64) same),
      subst (λ (js : List Job). KnowsMarks js (live_of c.execute-reply.new.volume)) (sym (c.record_call-client.ensures.takings ∙ ap (λ (m : Seated). m.0.takings) c.sync_client-client.ensures.engine.1))
          (knows-still c.self.inside.seat.me.0.takings (live_of c.self.inside.volume) (live_of c.execute-reply.new.volume) c.self.invariant.2 c.execute-reply.ensures.spares),
    )
