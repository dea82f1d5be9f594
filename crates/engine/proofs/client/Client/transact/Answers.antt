use Rattle.std.proofs.Common.{ℕ, ◌+◌, ◌%◌, ◌^◌, List, sym, ap, subst, ◌∙◌}
use Rattle.std.specs.Prelude.{Result}
use Rattle.std.specs.Global.{Vec}
use Rattle.reference.specs.declared.reply.Reply.{Reply}
use Rattle.volume.specs.declared.transact.FailedCall.{FailedCall}
use Rattle.engine.specs.Clients.{Greets, first_view}
use Rattle.engine.specs.Histories.{Entry}
use Rattle.engine.specs.Lists.{FailsAfter, entries}
use Rattle.engine.specs.Rule.{Seated}
use Rattle.engine.specs.Seats.{MakesAllOrNone}
use Rattle.engine.specs.declared.view.View.{View}
use Rattle.engine.proofs.Callers.{adds-after, greets-after, numbered-still, sees-after}
use Rattle.engine.proofs.Lists.{length-entries, own-entries}
use Rattle.engine.proofs.client.Client.transact.Goals as goal

pub into_seat-seat-requires : goal.into_seat-seat-requires
into_seat-seat-requires g c = (_, ap (λ b. b.views) c.replace.ensures.value ∙ c.self.invariant.1.0)

pub invariant_of-self : goal.invariant_of-self
invariant_of-self g c =
    let i = c.self.invariant in
    let p = c.transact-seat.ensures in
    let makes = c.transact-seat.ensures.makes in
    let m = subst (λ (answer : Result (Vec Reply) FailedCall). MakesAllOrNone g.J.EngineId.opening c.into_seat-seat.result.me.0 c.args.calls.now answer makes.0 c.transact-seat.result.0.me.0) c.in-Ok.is makes.1 in
    let was = ap (λ b. b.views) (sym c.replace.ensures.value) ∙ c.into_seat-seat.ensures.2 in
    let now = c.into_badge.ensures in
    let es : ℕ → List Entry = λ n. entries n c.args.calls.now c.in-Ok.replies.items in
    let greets = greets-after _ _ _ _ _ es _ _ _ i.1 was m.0 now.2 (own-entries _ c.args.calls.now c.in-Ok.replies.items) (ap (λ (x : Seated). x.0) p.client.1) in (
      now.0 ∙ p.client.0,
      subst (λ k. Greets g.J.EngineId.opening g.J.EngineId.clients c.into_badge.result.views ((c.self.inside.made + k) % 2 ^ 64)) (length-entries _ c.args.calls.now c.in-Ok.replies.items m.1) greets,
      numbered-still _ _ _ _ _ i.2 was m.0.0 now.2,
    )

pub returns-in-Ok : goal.returns-in-Ok
returns-in-Ok g c =
    let i = c.self.invariant in
    let makes = c.transact-seat.ensures.makes in
    let m = subst (λ (answer : Result (Vec Reply) FailedCall). MakesAllOrNone g.J.EngineId.opening c.into_seat-seat.result.me.0 c.args.calls.now answer makes.0 c.transact-seat.result.0.me.0) c.in-Ok.is makes.1 in
    let was = ap (λ b. b.views) (sym c.replace.ensures.value) ∙ c.into_seat-seat.ensures.2 in
    let es : ℕ → List Entry = λ n. entries n c.args.calls.now c.in-Ok.replies.items in
    (adds-after _ _ _ _ _ es _ _ _ i.1 was m.0 c.into_badge.ensures.2 _ c.self.view_is, m.1)

pub returns-in-Err : goal.returns-in-Err
returns-in-Err g c =
    let i = c.self.invariant in
    let makes = c.transact-seat.ensures.makes in
    let m = subst (λ (answer : Result (Vec Reply) FailedCall). MakesAllOrNone g.J.EngineId.opening c.into_seat-seat.result.me.0 c.args.calls.now answer makes.0 c.transact-seat.result.0.me.0) c.in-Err.is makes.1 in
    let was = ap (λ b. b.views) (sym c.replace.ensures.value) ∙ c.into_seat-seat.ensures.2 in
    let now = c.into_badge.ensures.2 in (
      sees-after _ _ _ _ _ _ _ i.1 was m.0 now _ c.self.view_is,
      subst (λ (h : List Entry). FailsAfter g.J.EngineId.opening h c.args.calls.now c.in-Err.failed) (sym (ap (λ (vs : List View). (first_view vs).seen) now ∙ m.1)) m.2,
    )
