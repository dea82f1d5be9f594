use Rattle.scan.proofs.search.+first.Goals.{first_of_slot-in-Untouched, first_of_slot-in_default-matches}
use Rattle.std.proofs.Common.{true≢false, arith, ap, sym, subst, ◌∙◌, ◌≡◌, ◌<◌, ◌+◌, ◌*◌, true, Some, None}
use Rattle.std.specs.Option.{option_copied}
use Rattle.node.specs.Meaning.{value}
use Rattle.node.specs.Pure.{depth}
use Rattle.node.specs.See.{see}
use Rattle.pathkey.specs.Keys.{is_below}
use Rattle.message.specs.Stretches.{ActAlike}
use Rattle.scan.specs.Stretches.{slot_value}
use Rattle.scan.specs.Pairs.{IsFirst}
use Rattle.scan.proofs.OnStretches.{first_of_resolved, first_untouched, first_changed}
use Rattle.std.proofs.lemmas.Result.{IfOk-weaker}
use Rattle.pathkey.proofs.KeyOrder.{reaches-refl}
use Rattle.scan.proofs.Firsts.{none_past, as_called}
use Rattle.scan.proofs.Searching.{at_start, child_lower, child_searchable, from_below, stands_at, found, no_more, goes_on, fewer_ahead}
use Rattle.scan.proofs.search.+first.Goals as goal

pub first-stretches-init : goal.first-stretches-init
first-stretches-init g t c = at_start g.U.Update.means c.args.node.now c.args.lo.now c.in_ok-from.from c.in_ok-from.ensures (reaches-refl c.args.lo.now)

pub first-segment_end-requires : goal.first-segment_end-requires
first-segment_end-requires g t c = from_below g.U.Update.means _ _ c.as_slice-in-stretches.ensures.value c.as_slice-in-stretches-2.ensures.value c.slot_of-i.ensures.number (sym c.is_before_end.ensures ∙ c.stretches-test.true) c.slot_end-end.ensures

pub first-first_of_slot-requires : goal.first-first_of_slot-requires
first-first_of_slot-requires g t c κs within =
    let at = stands_at g.U.Update.means c.in_ok-stop.stop c.as_slice-in-stretches.ensures.value c.as_slice-in-stretches-2.ensures.value (ap see (sym c.in-Inner.is) ∙ c.body.ensures) c.slot_of-i.ensures.bound c.slot_of-i.ensures.number c.index-slot.ensures c.slot_end-end.ensures c.in_ok-stop.ensures.after c.in_ok-stop.ensures.inside c.in_ok-stop.ensures.an_end in
    let s = c.index-slot.result.now in
    let below : depth s.child.value < depth c.args.node.now = child_lower g.U.Update.means at in
    let falls : 2 * depth s.child.value + 1 < 2 * depth c.args.node.now = omega (arith, below) in
    let d : 2 * depth c.args.node.now ≡ t = c.decreases in
    let e = sym c.as_ref.ensures.value in
    let some = subst (λ o. is_below c.stretches.from o ≡ true) e c.in_ok-stop.ensures.after in
    let alike = subst (λ o. ActAlike s.pending.0 c.stretches.from o) e c.in_ok-stop.ensures.alike in
    (subst (λ m. 2 * depth s.child.value + 1 < m) d falls, (within.0, (within.1, (child_searchable g.U.Update.means at c.requires, (some, alike)))))

pub first-returns-in-Some : goal.first-returns-in-Some
first-returns-in-Some g t c =
    let at = stands_at g.U.Update.means c.in_ok-stop.stop c.as_slice-in-stretches.ensures.value c.as_slice-in-stretches-2.ensures.value (ap see (sym c.in-Inner.is) ∙ c.body.ensures) c.slot_of-i.ensures.bound c.slot_of-i.ensures.number c.index-slot.ensures c.slot_end-end.ensures c.in_ok-stop.ensures.after c.in_ok-stop.ensures.inside c.in_ok-stop.ensures.an_end in
    found g.U.Update.means at c.args.lo.now c.stretches.invariant c.in-Some.pair (as_called (slot_value g.U.Update.means c.index-slot.result.now) c.stretches.from (option_copied c.as_ref.result) c.in_ok-stop.stop c.in_ok-pair.field-0 (Some c.in-Some.pair) c.as_ref.ensures.value c.in-Some.is c.in_ok-pair.ensures)

pub first-returns-in_default-stop : goal.first-returns-in_default-stop
first-returns-in_default-stop g t c =
    let at = stands_at g.U.Update.means c.in_ok-stop.stop c.as_slice-in-stretches.ensures.value c.as_slice-in-stretches-2.ensures.value (ap see (sym c.in-Inner.is) ∙ c.body.ensures) c.slot_of-i.ensures.bound c.slot_of-i.ensures.number c.index-slot.ensures c.slot_end-end.ensures c.in_ok-stop.ensures.after c.in_ok-stop.ensures.inside c.in_ok-stop.ensures.an_end in
    no_more g.U.Update.means at c.args.lo.now c.stretches.invariant c.in_default-stop.is (as_called (slot_value g.U.Update.means c.index-slot.result.now) c.stretches.from (option_copied c.as_ref.result) c.in_ok-stop.stop c.in_ok-pair.field-0 None c.as_ref.ensures.value c.in_default.is c.in_ok-pair.ensures)

pub first-stretches-smaller : goal.first-stretches-smaller
first-stretches-smaller g t c =
    let at = stands_at g.U.Update.means c.in_ok-stop.stop c.as_slice-in-stretches.ensures.value c.as_slice-in-stretches-2.ensures.value (ap see (sym c.in-Inner.is) ∙ c.body.ensures) c.slot_of-i.ensures.bound c.slot_of-i.ensures.number c.index-slot.ensures c.slot_end-end.ensures c.in_ok-stop.ensures.after c.in_ok-stop.ensures.inside c.in_ok-stop.ensures.an_end in
    fewer_ahead g.U.Update.means at c.in-Some-stop.next c.in-Some-stop.is

pub first-stretches-preserved : goal.first-stretches-preserved
first-stretches-preserved g t c =
    let at = stands_at g.U.Update.means c.in_ok-stop.stop c.as_slice-in-stretches.ensures.value c.as_slice-in-stretches-2.ensures.value (ap see (sym c.in-Inner.is) ∙ c.body.ensures) c.slot_of-i.ensures.bound c.slot_of-i.ensures.number c.index-slot.ensures c.slot_end-end.ensures c.in_ok-stop.ensures.after c.in_ok-stop.ensures.inside c.in_ok-stop.ensures.an_end in
    goes_on g.U.Update.means at c.args.lo.now c.stretches.invariant c.in-Some-stop.next c.in-Some-stop.is (as_called (slot_value g.U.Update.means c.index-slot.result.now) c.stretches.from (option_copied c.as_ref.result) c.in_ok-stop.stop c.in_ok-pair.field-0 None c.as_ref.ensures.value c.in_default.is c.in_ok-pair.ensures)

pub first-returns : goal.first-returns
first-returns g t c = none_past (value g.U.Update.means c.args.node.now) c.args.lo.now c.stretches.from (option_copied c.args.hi) c.stretches.invariant.none (sym c.is_before_end.ensures ∙ c.stretches-test.false)

pub first_of_slot-returns-in-Value : goal.first_of_slot-returns-in-Value
first_of_slot-returns-in-Value g t c =
    let resolution = rw c.in-Value.is at c.in_ok-resolution.ensures.resolved in
    let here = first_of_resolved g.U.Update.means c.args.slot.now.pending.0 (value g.U.Update.means c.args.slot.now.child.value) c.args.from.now (option_copied c.args.stop) c.requires.some c.requires.alike c.in-Value.value resolution in
    IfOk-weaker c.pair_at.result _ (IsFirst (slot_value g.U.Update.means c.args.slot.now) c.args.from.now (option_copied c.args.stop)) (λ r e. subst (IsFirst (slot_value g.U.Update.means c.args.slot.now) c.args.from.now (option_copied c.args.stop)) (sym e) here) c.pair_at.ensures

pub first_of_slot-returns-then-matches : goal.first_of_slot-returns-then-matches
first_of_slot-returns-then-matches g t c =
    let means = g.U.Update.means in
    let s = c.args.slot.now in
    let from = c.args.from.now in
    let stop = option_copied c.args.stop in
    let below = subst (λ n. IsFirst (value means n) from stop c.in_ok-below.below) c.deref.ensures c.in_ok-below.ensures in
    elim c.match-matches.branch [
      | first_of_slot-in-Untouched w ↦ (let none = rw w.in-Untouched.is at c.in_ok-resolution.ensures.resolved in first_untouched means s.pending.0 (value means s.child.value) from stop c.requires.some c.requires.alike c.in_ok-below.below none.1 below)
      | first_of_slot-in_default-matches w ↦ absurd (true≢false (sym c.if-matches.true ∙ w.matches-is))
    ]

pub first_of_slot-returns : goal.first_of_slot-returns
first_of_slot-returns g t c =
    let means = g.U.Update.means in
    let s = c.args.slot.now in
    let from = c.args.from.now in
    let stop = option_copied c.args.stop in
    let below = subst (λ n. IsFirst (value means n) from stop c.in_ok-below.below) c.deref.ensures c.in_ok-below.ensures in
    let here = first_changed means s.pending.0 (value means s.child.value) from stop c.requires.some c.requires.alike c.in_ok-below.below below in
    IfOk-weaker c.changed.result _ (IsFirst (slot_value means s) from stop) (λ r e. subst (IsFirst (slot_value means s) from stop) (sym e) here) c.changed.ensures
