use Rattle.std.proofs.Common.{ℕ, List, [], ◌∷◌, sym, ap, ◌∙◌}
use Rattle.engine.specs.Histories.{Entry, entry}
use Rattle.engine.specs.Rule.{Seated}
use Rattle.engine.proofs.Callers.{adds-after, greets-after, numbered-still, own-one}
use Rattle.engine.proofs.client.Client.record_call.Goals as goal

pub into_seat-seat-requires : goal.into_seat-seat-requires
into_seat-seat-requires g c = (_, ap (λ b. b.views) c.replace.ensures.value ∙ c.self.invariant.1.0)

pub invariant_of-self : goal.invariant_of-self
invariant_of-self g c =
    let i = c.self.invariant in
    let p = c.record_call-seat.ensures in
    let was = ap (λ b. b.views) (sym c.replace.ensures.value) ∙ c.into_seat-seat.ensures.2 in
    let now = c.into_badge.ensures in
    let es : ℕ → List Entry = λ n. entry n (g.A.Operation.event c.args.execute.now) (g.A.Operation.answer c.record_call-seat.result.1) ∷ [] in
    (now.0 ∙ p.client.0, greets-after _ _ _ _ _ es _ _ _ i.1 was p.makes.1 now.2 (own-one c.into_seat-seat.result.me.0.client (g.A.Operation.event c.args.execute.now) (g.A.Operation.answer c.record_call-seat.result.1)) (ap (λ (m : Seated). m.0) p.client.1), numbered-still _ _ _ _ _ i.2 was p.makes.1.0 now.2)

pub returns : goal.returns
returns g c =
    let i = c.self.invariant in
    let p = c.record_call-seat.ensures in
    let was = ap (λ b. b.views) (sym c.replace.ensures.value) ∙ c.into_seat-seat.ensures.2 in
    let es : ℕ → List Entry = λ n. entry n (g.A.Operation.event c.args.execute.now) (g.A.Operation.answer c.record_call-seat.result.1) ∷ [] in
    adds-after _ _ _ _ _ es _ _ _ i.1 was p.makes.1 c.into_badge.ensures.2 _ c.self.view_is
