use Rattle.std.proofs.Common.{arith, rules, ap, sym, ◌∙◌, ◌≡◌, ◌≤◌, ◌<◌, length, subst}
use Rattle.std.specs.Option.{option_copied}
use Rattle.node.specs.See.{see, seen_slots}
use Rattle.node.specs.Pure.{inner}
use Rattle.node.specs.Searchable.{IsSearchable}
use Rattle.node.specs.Site.{end_at, end_of}
use Rattle.node.specs.Steps.{can_from, Precheck}
use Rattle.node.proofs.Placing.{searchable_child}
use Rattle.node.proofs.StepPlaces.{spot, slots_at-past, spot-get}
use Rattle.node.proofs.node.descend.+precheck.Goals as goal

pub returns-then-i-len : goal.returns-then-i-len
returns-then-i-len g t c =
    let items = c.in-Inner.slots.items in
    let i = c.in-Some.first.now in
    let h : length items ≤ i = omega arith in
    let was : inner (seen_slots items) ≡ c.args.node.now = ap see (sym c.in-Inner.is) ∙ c.node.view_is in
    ap (can_from g.C.SlotStep.kind c.args.slot (end_at c.args.place.now (option_copied c.args.hi) c.args.node.now)) (slots_at-past c.args.place.now c.in-Some.rest.now i items c.args.node.now c.in-Some.ensures.cases.0 was h)

pub returns : goal.returns
returns g t c =
    let items = c.in-Inner.slots.items in
    let i = c.in-Some.first.now in
    let h : i < length items = omega arith in
    let was : inner (seen_slots items) ≡ c.args.node.now = ap see (sym c.in-Inner.is) ∙ c.node.view_is in
    let hi = option_copied c.args.hi in
    let rest = c.in-Some.rest.now in
    let cut = sym (c.end_of-end.ensures ∙ ap (λ z. end_of hi (seen_slots z) i) c.as_slice-2.ensures.value) in
    let here = spot-get c.args.place.now rest i hi (option_copied c.end_of-end.result) items c.index.result.now c.args.node.now c.in-Some.ensures.cases.0 was h c.index.ensures cut ∙ ap (spot rest (option_copied c.end_of-end.result)) (sym c.deref.ensures) in
    subst (λ z. Precheck g.U.Update.means g.C.SlotStep.kind c.args.shape c.args.root c.args.slot z.0 z.1 c.precheck.result) (sym here) c.precheck.ensures

pub precheck-requires : goal.precheck-requires
precheck-requires g t c κs within =
    let items = c.in-Inner.slots.items in
    let i = c.in-Some.first.now in
    let was : inner (seen_slots items) ≡ c.args.node.now = ap see (sym c.in-Inner.is) ∙ c.node.view_is in
    let all = subst IsSearchable (sym was) c.requires in
    let child = searchable_child items i c.index.result.now (omega arith) all.1 in
    let here : IsSearchable c.deref.result.now = subst IsSearchable (sym c.deref.ensures) (subst (λ x. IsSearchable x.child.value) (sym c.index.ensures) child) in
    let short : length c.in-Some.rest.now < length c.args.place.now = omega (arith, ap length c.in-Some.ensures.cases.0) in
    (omega (arith, short), (search rules, (search rules, (search rules, here))))
