use Rattle.std.proofs.Common.{◌≡◌, ◌∙◌, ◌-◌, ap, length, sym, subst, rules, arith}
use Rattle.std.proofs.lemmas.List.{length_push}
use Rattle.flush.specs.Heaviest.{IsFirstOf, IsWalkable, loads}
use Rattle.flush.proofs.Loads.{first-own, first-below, first-reached}
use Rattle.flush.proofs.Walks.{walkable_below, above_leaves, flush_into-is}
use Rattle.node.specs.declared.place.TreeStep.{TreeStep}
use Rattle.node.specs.Places.{way}
use Rattle.node.specs.Pure.{inner}
use Rattle.node.specs.See.{see, seen_slots}
use Rattle.node.proofs.Placing.{slot_count-slots}
use Rattle.flush.proofs.heaviest_slot.+first_heavy.Goals as goal

pub step_at-requires : goal.step_at-requires
step_at-requires g t c =
    let xs = c.as_slice-slots.result.now in
    let was : inner (seen_slots xs) ≡ c.args.node.now = ap (λ z. inner (seen_slots z)) c.as_slice-slots.ensures.value ∙ ap see (sym c.in-Inner.is) ∙ c.body.ensures in
    let here = subst (IsWalkable c.args.levels) (sym was) c.requires.even in
    omega (arith, here.1, slot_count-slots xs, c.in-Some.ensures.bound)

pub returns-in-Some : goal.returns-in-Some
returns-in-Some g t c =
    let xs = c.as_slice-slots.result.now in
    let was : inner (seen_slots xs) ≡ c.args.node.now = ap (λ z. inner (seen_slots z)) c.as_slice-slots.ensures.value ∙ ap see (sym c.in-Inner.is) ∙ c.body.ensures in
    let here = subst (IsWalkable c.args.levels) (sym was) c.requires.even in
    let kind = c.flush_at.result in
    let step : TreeStep = record { kind = kind; at = c.args.at; slot = c.in-Some.i } in
    let first = first-own c.args.least step c.args.levels (seen_slots xs) c.args.node.now was (λ m w. flush_into-is c.args.levels m kind c.flush_at.ensures.leaf c.flush_at.ensures.inner here.0 w) here.2 c.in-Some.ensures.first in
    subst (λ s. IsFirstOf c.args.least s (loads (way c.args.at) c.args.node.now)) (sym c.step_at.ensures) first

pub below-requires-clause-few : goal.below-requires-clause-few
below-requires-clause-few g t c =
    let xs = c.as_slice-slots.result.now in
    let was : inner (seen_slots xs) ≡ c.args.node.now = ap (λ z. inner (seen_slots z)) c.as_slice-slots.ensures.value ∙ ap see (sym c.in-Inner.is) ∙ c.body.ensures in
    let here = subst (IsWalkable c.args.levels) (sym was) c.requires.even in
    omega (arith, here.1, slot_count-slots xs, c.slot_above-i.ensures.bound)

pub below-requires-clause-short : goal.below-requires-clause-short
below-requires-clause-short g t c =
    let xs = c.as_slice-slots.result.now in
    let i = c.slot_above-i.result in
    let s = c.index-slots-i.result in
    let child : c.deref.result.now ≡ s.child.value = c.deref.ensures ∙ ap (λ x. x.child.value) (sym c.index-slots-i.is) in
    let was : inner (seen_slots xs) ≡ c.args.node.now = ap (λ z. inner (seen_slots z)) c.as_slice-slots.ensures.value ∙ ap see (sym c.in-Inner.is) ∙ c.body.ensures in
    let here = subst (IsWalkable c.args.levels) (sym was) c.requires.even in
    let low = walkable_below c.args.levels xs i s c.deref.result.now c.slot_above-i.ensures.bound c.index-slots-i.is child here.2 in
    let reached = first-reached c.args.least xs i s c.deref.result.now child c.index-slots-i.is c.slot_above-i.ensures.first in
    let inside = above_leaves (c.args.levels - 1) c.deref.result.now (omega (arith, reached, c.requires.some)) low in
    omega (arith, inside, here.0, c.requires.short)

pub first_heavy-requires : goal.first_heavy-requires
first_heavy-requires g t c κs within =
    let xs = c.as_slice-slots.result.now in
    let i = c.slot_above-i.result in
    let s = c.index-slots-i.result in
    let child : c.deref.result.now ≡ s.child.value = c.deref.ensures ∙ ap (λ x. x.child.value) (sym c.index-slots-i.is) in
    let was : inner (seen_slots xs) ≡ c.args.node.now = ap (λ z. inner (seen_slots z)) c.as_slice-slots.ensures.value ∙ ap see (sym c.in-Inner.is) ∙ c.body.ensures in
    let here = subst (IsWalkable c.args.levels) (sym was) c.requires.even in
    let low = walkable_below c.args.levels xs i s c.deref.result.now c.slot_above-i.ensures.bound c.index-slots-i.is child here.2 in
    let reached = first-reached c.args.least xs i s c.deref.result.now child c.index-slots-i.is c.slot_above-i.ensures.first in
    let longer = ap length c.below.ensures ∙ length_push (way c.args.at) i in
    (omega (arith, c.decreases, here.0), (search rules, (search rules, (low, (omega (arith, longer, here.0, c.requires.short), (c.requires.some, reached))))))

pub returns : goal.returns
returns g t c =
    let xs = c.as_slice-slots.result.now in
    let i = c.slot_above-i.result in
    let s = c.index-slots-i.result in
    let child : c.deref.result.now ≡ s.child.value = c.deref.ensures ∙ ap (λ x. x.child.value) (sym c.index-slots-i.is) in
    let was : inner (seen_slots xs) ≡ c.args.node.now = ap (λ z. inner (seen_slots z)) c.as_slice-slots.ensures.value ∙ ap see (sym c.in-Inner.is) ∙ c.body.ensures in
    first-below c.args.least c.first_heavy.result (way c.args.at) (way c.below.result) i xs s c.deref.result.now c.args.node.now was c.index-slots-i.is child c.below.ensures c.in_default-own_slot.ensures.first c.slot_above-i.ensures.first c.first_heavy.ensures
