use Rattle.std.proofs.Common.{◌≡◌, arith, rules, subst, ap, sym, ◌∙◌, refl, ⊎_elim, ◌<◌, ◌≤◌, length, is_ok, ◌∷◌, None}
use Rattle.node.specs.See.{see, seen_slots}
use Rattle.node.specs.Pure.{inner}
use Rattle.node.specs.Site.{slots_at}
use Rattle.node.specs.Searchable.{IsSearchable}
use Rattle.node.specs.Steps.{Replies}
use Rattle.node.specs.declared.step.StepReply.TheVariants.{NotThere, NoMemory}
use Rattle.node.proofs.Placing.{searchable_child}
use Rattle.node.proofs.At.{at_below, at_same, at_none, of_child-past}
use Rattle.node.proofs.node.descend.+descend.Goals as goal

pub returns-in_default : goal.returns-in_default
returns-in_default g t c =
    let same = ⊎_elim (λ x. x) (λ x. x) (rw c.in_default.is at c.make_mut.follows.holds-at-none) in
    at_same c.args.place.now NoMemory (Replies g.U.Update.means g.C.SlotStep.kind c.args.shape c.args.root c.args.slot NoMemory) c.args.node.now.value _ same tt (λ ss. refl)

pub returns-then-i-len : goal.returns-then-i-len
returns-then-i-len g t c =
    let items = c.in-Inner.slots.items in
    let i = c.in-Some.first.now in
    let h : length items ≤ i = omega arith in
    let own = ⊎_elim (λ x. x) (λ x. x) (rw c.in-Ok.is at c.make_mut.ensures.value) in
    let was : inner (seen_slots items) ≡ c.args.node.now.value = ap see (sym c.in-Inner.is) ∙ c.body_mut.ensures.value ∙ own in
    let new = c.make_mut.follows.holds (inner (seen_slots items)) (ap is_ok c.in-Ok.is) ∙ was in
    let none : slots_at (i ∷ c.in-Some.rest.now) (inner (seen_slots items)) ≡ None = of_child-past None (slots_at c.in-Some.rest.now) items i h in
    let consumed : slots_at c.args.place.now c.args.node.now.value ≡ None = ap (λ p. slots_at p c.args.node.now.value) c.in-Some.ensures.cases.0 ∙ ap (slots_at (i ∷ c.in-Some.rest.now)) (sym was) ∙ none in
    at_none c.args.place.now NotThere (Replies g.U.Update.means g.C.SlotStep.kind c.args.shape c.args.root c.args.slot NotThere) c.args.node.now.value _ new tt consumed

pub returns : goal.returns
returns g t c =
    let items = c.in-Inner.slots.items in
    let i = c.in-Some.first.now in
    let h : i < length items = omega arith in
    let own = ⊎_elim (λ x. x) (λ x. x) (rw c.in-Ok.is at c.make_mut.ensures.value) in
    let R = Replies g.U.Update.means g.C.SlotStep.kind c.args.shape c.args.root c.args.slot c.descend-reply.result in
    at_below c.args.place.now c.in-Some.rest.now c.descend-reply.result R items i c.index_mut.result.now _ c.descend-reply.new.node.value c.args.node.now.value _ c.in-Some.ensures.cases.0 h c.index_mut.ensures.value refl refl refl c.descend-reply.ensures (ap see (sym c.in-Inner.is) ∙ c.body_mut.ensures.value ∙ own) (c.make_mut.follows.holds _ (ap is_ok c.in-Ok.is) ∙ c.update_weight-2.ensures)

pub descend-reply-requires : goal.descend-reply-requires
descend-reply-requires g t c κs within =
    let items = c.in-Inner.slots.items in
    let i = c.in-Some.first.now in
    let s = c.index_mut.result.now in
    let own = ⊎_elim (λ x. x) (λ x. x) (rw c.in-Ok.is at c.make_mut.ensures.value) in
    let was : inner (seen_slots items) ≡ c.args.node.now.value = ap see (sym c.in-Inner.is) ∙ c.body_mut.ensures.value ∙ own in
    let all = subst IsSearchable (sym was) c.requires.searchable in
    let child = searchable_child items i s (omega arith) all.1 in
    let here : IsSearchable s.child.value = subst (λ x. IsSearchable x.child.value) (sym c.index_mut.ensures.value) child in
    let short : length c.in-Some.rest.now < length c.args.place.now = omega (arith, ap length c.in-Some.ensures.cases.0) in
    (omega (arith, short), (search rules, (search rules, (search rules, (c.requires.shape, here)))))
