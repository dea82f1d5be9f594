use Rattle.std.proofs.Common.{◌≡◌, ◌<◌, ◌++◌, ℕ, List, refl, ap, ◌∙◌, sym, subst}
use Rattle.reference.specs.declared.reply.Reply.{Reply}
use Rattle.volume.specs.Laws.{timed_calls}
use Rattle.volume.specs.Volumes.{live_of}
use Rattle.volume.specs.declared.job.Job.{Job}
use Rattle.engine.specs.Histories.{Entry}
use Rattle.engine.specs.Lists.{AllSucceed, FailsAfter, FitAllAfter, entries}
use Rattle.engine.specs.Rule.{Seated}
use Rattle.engine.specs.Takings.{KnowsMarks}
use Rattle.engine.proofs.Callers.{looks-of}
use Rattle.engine.proofs.Lists.{fails-after, fit-all, holds-all, makes-all, succeed-of}
use Rattle.engine.proofs.Sparing.{spares-same}
use Rattle.engine.proofs.Takings.{knows-still}
use Rattle.engine.proofs.locked_state.LockedState.transact.Goals as goal

pub record_all-client-requires-clause-succeed : goal.record_all-client-requires-clause-succeed
record_all-client-requires-clause-succeed g c =
    subst (λ (rs : List Reply). AllSucceed c.args.calls.now rs) (sym c.deref.ensures.value)
    (succeed-of c.args.calls.now c.in-Ok.replies.items c.self.inside.volume c.transact.new.self c.in-Ok.ensures.called)

pub record_all-client-requires-clause-fits : goal.record_all-client-requires-clause-fits
record_all-client-requires-clause-fits g c =
    let same = ap (λ (m : Seated). m.0.history) c.sync_client-client.ensures.engine.1 in
    subst (λ (x : List Entry × List Reply). FitAllAfter g.J.EngineId.opening x.0 (timed_calls c.args.calls.now x.1)) (λ i. (sym same i, sym c.deref.ensures.value i))
    (fit-all g.J.EngineId.opening c.self.inside.seat.me.0.history c.args.calls.now c.in-Ok.replies c.self.inside.volume c.transact.new.self c.self.invariant.1.stands c.in-Ok.ensures)

pub invariant_of-self : goal.invariant_of-self
invariant_of-self g c =
    let same = ap (λ (m : Seated). m.0.history) c.sync_client-client.ensures.engine.1 in
    let by : ℕ = c.learn.new.client.me.0.client in
    let number : by ≡ c.args.client.me.0.client = ap (λ (m : Seated). m.0.client) c.learn.ensures.seat.1 ∙ ap (λ (m : Seated). m.0.client) c.sync_client-client.ensures.client.1 in
    let mine : by < g.J.EngineId.clients = subst (λ n. n < g.J.EngineId.clients) (sym number) c.requires.client.1 in
    let does = c.in-Ok.ensures in (
      c.record_all-client.ensures.engine,
      holds-all g.J.EngineId.opening g.J.EngineId.clients c.self.inside.volume c.transact.new.self c.self.inside.seat.me.0.history c.record_all-client.new.engine.me.0.history by c.args.calls.now c.in-Ok.replies c.self.inside.count _
          c.self.invariant.1 does mine
          (c.record_all-client.ensures.history ∙ ap (λ (x : List Entry × List Reply). x.0 ++ entries by c.args.calls.now x.1) (λ i. (same i, c.deref.ensures.value i)))
          refl,
      subst (λ (js : List Job). KnowsMarks js (live_of c.transact.new.self)) (sym (c.record_all-client.ensures.takings ∙ ap (λ (m : Seated). m.0.takings) c.sync_client-client.ensures.engine.1))
          (knows-still c.self.inside.seat.me.0.takings (live_of c.self.inside.volume) (live_of c.transact.new.self) c.self.invariant.2 (spares-same (live_of c.self.inside.volume) (live_of c.transact.new.self) does.kept does.marks)),
    )

pub returns-in-Ok-clause-makes : goal.returns-in-Ok-clause-makes
returns-in-Ok-clause-makes g c =
    let same = ap (λ (m : Seated). m.0.history) c.sync_client-client.ensures.engine.1 in
    let t = ap (λ (m : Seated). m.0) c.sync_client-client.ensures.client.1 in
    let l = ap (λ (m : Seated). m.0) c.learn.ensures.seat.1 in
    let looks = looks-of g.J.EngineId.opening c.args.client.me.0 c.sync_client-client.result.me.0 c.learn.new.client.me.0 _ _ t l c.learn.ensures.reported c.learn.ensures.legal c.requires.announced in
    let seen : c.learn.new.client.me.0.seen ≡ c.args.self.now = ap (λ v. v.seen) l ∙ ap (λ v. v.heard) t ∙ c.self.view_is in
    let p = c.record_all-client.ensures in
    let succeed = succeed-of c.args.calls.now c.in-Ok.replies.items c.self.inside.volume c.transact.new.self c.in-Ok.ensures.called in (
      makes-all g.J.EngineId.opening c.args.client.me.0 c.learn.new.client.me.0 c.record_all-client.result.me.0 c.args.self.now c.args.calls.now c.in-Ok.replies.items looks seen c.requires.announced succeed p.seen.0 p.seen.1
          (p.seen.2 ∙ p.history ∙ ap (λ (x : List Entry × ℕ × List Reply). x.0 ++ entries x.1 c.args.calls.now x.2) (λ i. ((same ∙ c.self.view_is) i, looks.0 i, c.deref.ensures.value i))) p.seen.3,
      succeed,
    )

pub returns-in-Err-clause-makes : goal.returns-in-Err-clause-makes
returns-in-Err-clause-makes g c =
    let t = ap (λ (m : Seated). m.0) c.sync_client-client.ensures.client.1 in
    let l = ap (λ (m : Seated). m.0) c.learn.ensures.seat.1 in (
      looks-of g.J.EngineId.opening c.args.client.me.0 c.sync_client-client.result.me.0 c.learn.new.client.me.0 _ _ t l c.learn.ensures.reported c.learn.ensures.legal c.requires.announced,
      ap (λ v. v.seen) l ∙ ap (λ v. v.heard) t ∙ c.self.view_is,
      subst (λ (h : List Entry). FailsAfter g.J.EngineId.opening h c.args.calls.now c.in-Err.failed) c.self.view_is
          (fails-after g.J.EngineId.opening c.self.inside.seat.me.0.history c.args.calls.now c.in-Err.failed c.self.inside.volume c.transact.new.self c.self.invariant.1.legal c.self.invariant.1.stands c.in-Err.ensures),
    )
