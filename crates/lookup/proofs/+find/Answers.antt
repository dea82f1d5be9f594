use Rattle.std.proofs.Common.{ap, sym, ◌∙◌, ◌≡◌, ◌<◌, length, refl, rules, arith}
use Rattle.std.proofs.lemmas.Result.{IfOk-weaker}
use Rattle.node.specs.Meaning.{value, slot_number}
use Rattle.node.specs.Pure.{inner}
use Rattle.node.specs.See.{see, seen_slots}
use Rattle.lookup.proofs.Found.{child_searched, made, passed}
use Rattle.lookup.proofs.+find.Goals as goal

pub find-find_in-requires : goal.find-find_in-requires
find-find_in-requires g t c κs within =
    let xs = c.in-Inner.slots.items in
    let slot = c.index-slot.result.now in
    let see_it : inner (seen_slots xs) ≡ c.loop-entries.node.now = ap see (sym c.in-Inner.is) ∙ c.body.ensures in
    let bound : c.slot_of.result < length xs = omega arith in
    let child = child_searched xs c.slot_of.result slot c.loop-entries.node.now slot.child.value see_it bound c.index-slot.ensures refl c.loop-entries.invariant.searchable in
    (omega (arith, child.1, c.loop-entries.invariant.no_deeper), (search rules, (search rules, child.0)))

pub find-returns-then-len-gt0 : goal.find-returns-then-len-gt0
find-returns-then-len-gt0 g t c =
    let k = c.args.key.now in
    let xs = c.in-Inner.slots.items in
    let see_it : inner (seen_slots xs) ≡ c.loop-entries.node.now = ap see (sym c.in-Inner.is) ∙ c.body.ensures in
    let bound : c.slot_of.result < length xs = omega arith in
    let number : c.slot_of.result ≡ slot_number (seen_slots xs) k = c.slot_of.ensures.number ∙ ap (λ ss. slot_number (seen_slots ss) k) c.as_slice-in-Inner.ensures.value in
    let here = made g.U.Update.means k xs c.slot_of.result c.index-slot.result.now c.args.node.now c.loop-entries.node.now c.loop-entries.invariant see_it bound number c.index-slot.ensures in
    IfOk-weaker c.find_in.result _ (λ v. v ≡ value g.U.Update.means c.args.node.now k) (λ v e. e ∙ here) c.find_in.ensures

pub find-loop-entries-smaller : goal.find-loop-entries-smaller
find-loop-entries-smaller g t c =
    let xs = c.in-Inner.slots.items in
    let see_it : inner (seen_slots xs) ≡ c.loop-entries.node.now = ap see (sym c.in-Inner.is) ∙ c.body.ensures in
    let bound : c.slot_of.result < length xs = omega arith in
    let child = child_searched xs c.slot_of.result c.index-slot.result.now c.loop-entries.node.now c.deref-node.result.now see_it bound c.index-slot.ensures c.deref-node.ensures c.loop-entries.invariant.searchable in
    child.1

pub find-loop-entries-preserved : goal.find-loop-entries-preserved
find-loop-entries-preserved g t c =
    let k = c.args.key.now in
    let xs = c.in-Inner.slots.items in
    let slot = c.index-slot.result.now in
    let see_it : inner (seen_slots xs) ≡ c.loop-entries.node.now = ap see (sym c.in-Inner.is) ∙ c.body.ensures in
    let bound : c.slot_of.result < length xs = omega arith in
    let number : c.slot_of.result ≡ slot_number (seen_slots xs) k = c.slot_of.ensures.number ∙ ap (λ ss. slot_number (seen_slots ss) k) c.as_slice-in-Inner.ensures.value in
    let none : length slot.pending.0 ≡ 0 = omega (arith, c.len.ensures, c.if-len-gt0.false) in
    passed g.U.Update.means k xs c.slot_of.result slot c.args.node.now c.loop-entries.node.now c.deref-node.result.now c.loop-entries.invariant see_it bound number c.index-slot.ensures c.deref-node.ensures none
