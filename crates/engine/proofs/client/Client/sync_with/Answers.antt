use Rattle.std.proofs.Common.{List, sym, ap, subst, ◌∙◌}
use Rattle.engine.specs.Histories.{Entry, StartsWith, Comparable}
use Rattle.engine.specs.Rule.{Seated}
use Rattle.engine.specs.Clients.{Known, known, first_view}
use Rattle.engine.specs.declared.view.View.{View}
use Rattle.engine.proofs.Histories.{comparable}
use Rattle.engine.proofs.Callers.{sees-after, greets-still, numbered-still}
use Rattle.engine.proofs.client.Client.sync_with.Goals as goal

pub into_seat-mine-requires : goal.into_seat-mine-requires
into_seat-mine-requires g c = (_, ap (λ b. b.views) c.replace.ensures.value ∙ c.self.invariant.1.0)

pub into_seat-theirs-requires : goal.into_seat-theirs-requires
into_seat-theirs-requires g c = (_, ap (λ b. b.views) c.replace-2.ensures.value ∙ c.other.invariant.1.0)

pub invariant_of-self : goal.invariant_of-self
invariant_of-self g c =
    let i = c.self.invariant in
    let p = c.sync_with-mine.ensures.one in
    let was = ap (λ b. b.views) (sym c.replace.ensures.value) ∙ c.into_seat-mine.ensures.2 in
    let now = c.into_badge.ensures in
    (now.0 ∙ p.0.0, greets-still _ _ _ _ _ _ _ i.1 was p.1 now.2 (ap (λ (m : Seated). m.0) p.0.1), numbered-still _ _ _ _ _ i.2 was p.1.0 now.2)

pub invariant_of-other : goal.invariant_of-other
invariant_of-other g c =
    let i = c.other.invariant in
    let p = c.sync_with-mine.ensures.other in
    let was = ap (λ b. b.views) (sym c.replace-2.ensures.value) ∙ c.into_seat-theirs.ensures.2 in
    let now = c.into_badge-2.ensures in
    (now.0 ∙ p.0.0, greets-still _ _ _ _ _ _ _ i.1 was p.1 now.2 (ap (λ (m : Seated). m.0) p.0.1), numbered-still _ _ _ _ _ i.2 was p.1.0 now.2)

pub returns-clause-comparable : goal.returns-clause-comparable
returns-clause-comparable g c =
    let p = c.sync_with-mine.ensures in
    let mine = ap known (sym (ap (λ b. b.views) (sym c.replace.ensures.value) ∙ c.into_seat-mine.ensures.2)) ∙ c.self.view_is in
    let theirs = ap known (sym (ap (λ b. b.views) (sym c.replace-2.ensures.value) ∙ c.into_seat-theirs.ensures.2)) ∙ c.other.view_is in
    let h : List Entry = c.sync_with-mine.result.0.me.0.seen in
    let begins : StartsWith h c.into_seat-theirs.result.me.0.seen = subst (λ (l : List Entry). StartsWith l c.into_seat-theirs.result.me.0.seen) (sym p.same) p.other.1.2 in
    subst (λ (x : Known × Known). Comparable x.0.seen x.1.seen) (λ i. (mine i, theirs i)) (comparable h c.into_seat-mine.result.me.0.seen c.into_seat-theirs.result.me.0.seen p.one.1.2 begins)

pub returns-clause-seen : goal.returns-clause-seen
returns-clause-seen g c =
    let was = ap (λ b. b.views) (sym c.replace.ensures.value) ∙ c.into_seat-mine.ensures.2 in
    sees-after _ _ _ _ _ _ _ c.self.invariant.1 was c.sync_with-mine.ensures.one.1 c.into_badge.ensures.2 _ c.self.view_is

pub returns-clause-other_seen : goal.returns-clause-other_seen
returns-clause-other_seen g c =
    let was = ap (λ b. b.views) (sym c.replace-2.ensures.value) ∙ c.into_seat-theirs.ensures.2 in
    sees-after _ _ _ _ _ _ _ c.other.invariant.1 was c.sync_with-mine.ensures.other.1 c.into_badge-2.ensures.2 _ c.other.view_is

pub returns-clause-same : goal.returns-clause-same
returns-clause-same g c =
    let seen = λ (vs : List View). (first_view vs).seen in
    ap seen c.into_badge.ensures.2 ∙ c.sync_with-mine.ensures.same ∙ sym (ap seen c.into_badge-2.ensures.2)
