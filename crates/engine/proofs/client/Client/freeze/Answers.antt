use Rattle.std.proofs.Common.{List, sym, ap, subst, ◌∙◌}
use Rattle.std.specs.Prelude.{IfOk}
use Rattle.engine.specs.Histories.{Entry}
use Rattle.engine.specs.Seats.{Shows}
use Rattle.engine.specs.declared.view.View.{View}
use Rattle.engine.specs.Clients.{first_view}
use Rattle.engine.specs.Rule.{Seated}
use Rattle.engine.proofs.Callers.{sees-after, greets-still, numbered-still}
use Rattle.engine.proofs.client.Client.freeze.Goals as goal

pub into_seat-seat-requires : goal.into_seat-seat-requires
into_seat-seat-requires g c = (_, ap (λ b. b.views) c.replace.ensures.value ∙ c.self.invariant.1.0)

pub invariant_of-self : goal.invariant_of-self
invariant_of-self g c =
    let i = c.self.invariant in
    let p = c.freeze-seat.ensures in
    let was = ap (λ b. b.views) (sym c.replace.ensures.value) ∙ c.into_seat-seat.ensures.2 in
    let now = c.into_badge.ensures in
    (now.0 ∙ p.client.0, greets-still _ _ _ _ _ _ _ i.1 was p.looks now.2 (ap (λ (m : Seated). m.0) p.client.1), numbered-still _ _ _ _ _ i.2 was p.looks.0 now.2)

pub returns-clause-seen : goal.returns-clause-seen
returns-clause-seen g c =
    let i = c.self.invariant in
    let p = c.freeze-seat.ensures in
    let was = ap (λ b. b.views) (sym c.replace.ensures.value) ∙ c.into_seat-seat.ensures.2 in
    sees-after _ _ _ _ _ _ _ i.1 was p.looks c.into_badge.ensures.2 _ c.self.view_is

pub returns-clause-tree : goal.returns-clause-tree
returns-clause-tree g c =
    let now = ap (λ (vs : List View). (first_view vs).seen) c.into_badge.ensures.2 in
    subst (λ (h : List Entry). IfOk c.freeze-seat.result.1 (λ f. Shows g.J.EngineId.opening h f)) (sym now) c.freeze-seat.ensures.tree
