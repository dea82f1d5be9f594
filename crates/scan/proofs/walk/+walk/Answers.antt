use Rattle.std.proofs.Common.{arith, ap, refl, sym, subst, ◌∙◌, ◌≡◌, ◌<◌, ◌≤◌, ◌+◌, ◌-◌, ◌*◌, ℕ, List, length, true, false, not, None}
use Rattle.std.specs.Prelude.{OnOk}
use Rattle.std.specs.Option.{option_copied}
use Rattle.std.proofs.lemmas.Result.{on_ok_weaker}
use Rattle.node.specs.Meaning.{value, lookup}
use Rattle.node.specs.Pure.{PNode, leaf, depth}
use Rattle.node.specs.See.{see}
use Rattle.pathkey.specs.Keys.{is_below}
use Rattle.pathkey.proofs.KeyOrder.{le_le}
use Rattle.message.specs.PointKeys.{is_cleared, IsNextPoint}
use Rattle.message.specs.Ranges.{reaches, before, within}
use Rattle.message.proofs.KeyOrder.{both}
use Rattle.message.proofs.NextKey.{in_range, reaches-next}
use Rattle.scan.specs.Pairs.{AddsScan}
use Rattle.scan.specs.Merging.{Merges, GoesOn}
use Rattle.scan.specs.Stretches.{slot_value}
use Rattle.scan.proofs.Joins.{walk_start, walk_on, walk_end, walk_full, walk_past, scan_added}
use Rattle.scan.proofs.Merging.{adds_cleared, adds_pointless, copied_none, point_falls, round_full, round_goes_on, round_last}
use Rattle.scan.proofs.Searching.{child_lower, child_searchable, from_below, stands_at, walked_on, walked_out, fewer_ahead}
use Rattle.scan.proofs.walk.+walk.Goals as goal

pub walk-returns-in-Leaf : goal.walk-returns-in-Leaf
walk-returns-in-Leaf g t c =
    let V = g.row.U-Value.Denot in
    let means = g.U.Update.means in
    let hi = option_copied c.args.hi in
    let old = c.args.pairs.now.items in
    let new = c.push_entries.new.pairs.items in
    let seen : leaf c.in-Leaf.entries.items ≡ c.args.node.now = ap see (sym c.in-Leaf.is) ∙ c.body.ensures in
    let all = subst (λ es. OnOk c.push_entries.result (AddsScan (lookup es) c.args.lo.now hi c.args.limit old new)) c.as_slice.ensures.value c.push_entries.ensures in
    subst (λ (n : PNode g.row.U.Denot V). OnOk c.push_entries.result (AddsScan (value means n) c.args.lo.now hi c.args.limit old new)) seen all

pub walk-stretches-init : goal.walk-stretches-init
walk-stretches-init g t c = walk_start (value g.U.Update.means c.args.node.now) c.args.lo.now (option_copied c.args.hi) c.args.limit c.in_ok-from.from c.args.pairs.now.items c.args.pairs.now.items c.in_ok-from.ensures refl

pub walk-returns-then-len-limit : goal.walk-returns-then-len-limit
walk-returns-then-len-limit g t c = walk_full (value g.U.Update.means c.args.node.now) c.args.lo.now (option_copied c.args.hi) c.args.limit c.stretches.from c.args.pairs.now.items c.stretches.pairs.items c.stretches.invariant (omega (arith, c.len.ensures, c.stretches.pairs.ok.0, c.if-len-limit.true))

pub walk-range_deleted_until-requires : goal.walk-range_deleted_until-requires
walk-range_deleted_until-requires g t c = from_below g.U.Update.means _ _ c.as_slice-in-stretches.ensures.value c.as_slice-in-stretches-2.ensures.value c.slot_of-i.ensures.number (sym c.is_before_end.ensures ∙ c.stretches-test.true) c.slot_end-end.ensures

pub walk-walk_slot-requires : goal.walk-walk_slot-requires
walk-walk_slot-requires g t c κs live =
    let at = stands_at g.U.Update.means c.in_ok-stop.stop c.as_slice-in-stretches.ensures.value c.as_slice-in-stretches-2.ensures.value (ap see (sym c.in-Inner.is) ∙ c.body.ensures) c.slot_of-i.ensures.bound c.slot_of-i.ensures.number c.index-slot.ensures c.slot_end-end.ensures c.in_ok-stop.ensures.after c.in_ok-stop.ensures.inside c.in_ok-stop.ensures.an_end in
    let s = c.index-slot.result.now in
    let below : depth s.child.value < depth c.args.node.now = child_lower g.U.Update.means at in
    let falls : 4 * depth s.child.value + 3 < 4 * depth c.args.node.now = omega (arith, below) in
    let d : 4 * depth c.args.node.now ≡ t = c.decreases in
    let alike = subst (λ o. (k : List ℕ) → within c.stretches.from o k ≡ true → is_cleared s.pending.0 k ≡ is_cleared s.pending.0 c.stretches.from) (sym c.as_ref.ensures.value) c.in_ok-stop.ensures.alike in
    let room : length c.stretches.pairs.items < c.args.limit = omega (arith, c.len.ensures, c.stretches.pairs.ok.0, c.if-len-limit.false) in
    (subst (λ m. 4 * depth s.child.value + 3 < m) d falls, (live.0, (live.1, (child_searchable g.U.Update.means at c.requires, (alike, room)))))

pub walk-returns-in_default : goal.walk-returns-in_default
walk-returns-in_default g t c =
    let at = stands_at g.U.Update.means c.in_ok-stop.stop c.as_slice-in-stretches.ensures.value c.as_slice-in-stretches-2.ensures.value (ap see (sym c.in-Inner.is) ∙ c.body.ensures) c.slot_of-i.ensures.bound c.slot_of-i.ensures.number c.index-slot.ensures c.slot_end-end.ensures c.in_ok-stop.ensures.after c.in_ok-stop.ensures.inside c.in_ok-stop.ensures.an_end in
    let adds = subst (λ o. AddsScan (slot_value g.U.Update.means c.index-slot.result.now) c.stretches.from o c.args.limit c.stretches.pairs.items c.walk_slot.new.pairs.items) c.as_ref.ensures.value c.in_ok-walk_slot.ensures in
    walked_out g.U.Update.means at c.args.lo.now c.args.limit c.args.pairs.now.items c.stretches.pairs.items c.walk_slot.new.pairs.items c.stretches.invariant adds c.in_default.is

pub walk-stretches-smaller : goal.walk-stretches-smaller
walk-stretches-smaller g t c =
    let at = stands_at g.U.Update.means c.in_ok-stop.stop c.as_slice-in-stretches.ensures.value c.as_slice-in-stretches-2.ensures.value (ap see (sym c.in-Inner.is) ∙ c.body.ensures) c.slot_of-i.ensures.bound c.slot_of-i.ensures.number c.index-slot.ensures c.slot_end-end.ensures c.in_ok-stop.ensures.after c.in_ok-stop.ensures.inside c.in_ok-stop.ensures.an_end in
    fewer_ahead g.U.Update.means at c.in-Some.next c.in-Some.is

pub walk-stretches-preserved : goal.walk-stretches-preserved
walk-stretches-preserved g t c =
    let at = stands_at g.U.Update.means c.in_ok-stop.stop c.as_slice-in-stretches.ensures.value c.as_slice-in-stretches-2.ensures.value (ap see (sym c.in-Inner.is) ∙ c.body.ensures) c.slot_of-i.ensures.bound c.slot_of-i.ensures.number c.index-slot.ensures c.slot_end-end.ensures c.in_ok-stop.ensures.after c.in_ok-stop.ensures.inside c.in_ok-stop.ensures.an_end in
    let adds = subst (λ o. AddsScan (slot_value g.U.Update.means c.index-slot.result.now) c.stretches.from o c.args.limit c.stretches.pairs.items c.walk_slot.new.pairs.items) c.as_ref.ensures.value c.in_ok-walk_slot.ensures in
    walked_on g.U.Update.means at c.args.lo.now c.args.limit c.args.pairs.now.items c.stretches.pairs.items c.walk_slot.new.pairs.items c.stretches.invariant adds c.in-Some.next c.in-Some.is

pub walk-returns : goal.walk-returns
walk-returns g t c = walk_past (value g.U.Update.means c.args.node.now) c.args.lo.now (option_copied c.args.hi) c.args.limit c.stretches.from c.args.pairs.now.items c.stretches.pairs.items c.stretches.invariant (sym c.is_before_end.ensures ∙ c.stretches-test.false)

pub walk_slot-returns-then-is_range_deleted : goal.walk_slot-returns-then-is_range_deleted
walk_slot-returns-then-is_range_deleted g t c =
    let means = g.U.Update.means in
    let s = c.args.slot.now in
    let from = c.args.from.now in
    let stop = option_copied c.args.stop in
    on_ok_weaker c.apply_pass.result (λ h. adds_cleared means s.pending.0 (value means s.child.value) from stop c.args.limit c.args.pairs.now.items c.apply_pass.new.pairs.items c.requires.alike (sym c.is_range_deleted.ensures ∙ c.if-is_range_deleted.true) (subst (λ (ps : List (List ℕ × g.row.U-Value.Denot)). Merges means s.pending.0 from stop c.args.limit ps c.args.pairs.now.items c.apply_pass.new.pairs.items) c.new-none.ensures.items h)) c.apply_pass.ensures

pub walk_slot-returns-then-is_none : goal.walk_slot-returns-then-is_none
walk_slot-returns-then-is_none g t c =
    let means = g.U.Update.means in
    let s = c.args.slot.now in
    let from = c.args.from.now in
    let stop = option_copied c.args.stop in
    let none : IsNextPoint s.pending.0 from stop None = subst (IsNextPoint s.pending.0 from stop) (copied_none c.next_point.result (c.is_none.ensures ∙ ap not c.if-is_none.true)) c.next_point.ensures in
    on_ok_weaker c.walk.result (λ a. adds_pointless means s.pending.0 (value means s.child.value) from stop c.args.limit c.args.pairs.now.items c.walk.new.pairs.items (λ k w. c.requires.alike k w ∙ sym c.is_range_deleted.ensures ∙ c.if-is_range_deleted.false) none (subst (λ n. AddsScan (value means n) from stop c.args.limit c.args.pairs.now.items c.walk.new.pairs.items) c.deref.ensures a)) c.walk.ensures

pub walk_rounds-rounds-init : goal.walk_rounds-rounds-init
walk_rounds-rounds-init g t c = record {
  walked = walk_start (slot_value g.U.Update.means c.args.slot.now) c.args.from.now (option_copied c.args.stop) c.args.limit c.in_ok-at.at c.args.pairs.now.items c.args.pairs.now.items c.in_ok-at.ensures refl;
  room = c.requires.room;
}

pub walk_rounds-round-requires : goal.walk_rounds-round-requires
walk_rounds-round-requires g t c κs live =
    let s = c.args.slot.now in
    let from = c.args.from.now in
    let stop = option_copied c.args.stop in
    let at = c.rounds.at in
    let d : 4 * depth s.child.value + 2 ≡ t = c.decreases in
    let falls : 4 * depth s.child.value + 1 < 4 * depth s.child.value + 2 = omega arith in
    let clear : (k : List ℕ) → within at stop k ≡ true → is_cleared s.pending.0 k ≡ false = λ k w. (let q = both (reaches at k) (is_below k stop) w in c.requires.clear k (in_range from k stop (le_le from at k c.rounds.invariant.walked.reached q.0) q.1)) in
    (subst (λ m. 4 * depth s.child.value + 1 < m) d falls, (live.0, (live.1, (c.requires.searchable, (clear, c.rounds.invariant.room)))))

pub walk_rounds-rounds-smaller : goal.walk_rounds-rounds-smaller
walk_rounds-rounds-smaller g t c =
    let s = c.args.slot.now in
    let at = c.rounds.at in
    let next = c.in-Some.next in
    let go : GoesOn g.U.Update.means s at (option_copied c.args.stop) c.args.limit c.rounds.pairs.items c.round.new.pairs.items next = rw c.in-Some.is at c.in_ok-next.ensures in
    let here = both (reaches at go.passed.0) (before go.passed.0 next) go.passed.1 in
    point_falls s.pending.0 at go.passed.0 next here.0 go.passed.2 (reaches-next go.passed.0 next ∙ here.1)

pub walk_rounds-rounds-preserved : goal.walk_rounds-rounds-preserved
walk_rounds-rounds-preserved g t c =
    let means = g.U.Update.means in
    let s = c.args.slot.now in
    let at = c.rounds.at in
    let stop = option_copied c.args.stop in
    let next = c.in-Some.next in
    let go : GoesOn means s at stop c.args.limit c.rounds.pairs.items c.round.new.pairs.items next = rw c.in-Some.is at c.in_ok-next.ensures in
    record {
      walked = walk_on (slot_value means s) c.args.from.now stop c.args.limit at c.args.pairs.now.items c.rounds.pairs.items c.rounds.invariant.walked next c.round.new.pairs.items go.reached go.inside go.added;
      room = go.room;
    }

pub walk_rounds-returns : goal.walk_rounds-returns
walk_rounds-returns g t c =
    let means = g.U.Update.means in
    let s = c.args.slot.now in
    let at = c.rounds.at in
    let stop = option_copied c.args.stop in
    let adds : AddsScan (slot_value means s) at stop c.args.limit c.rounds.pairs.items c.round.new.pairs.items = rw c.in_default.is at c.in_ok-next.ensures in
    walk_end (slot_value means s) c.args.from.now stop c.args.limit at c.args.pairs.now.items c.rounds.pairs.items c.rounds.invariant.walked c.round.new.pairs.items adds

pub round-returns-then-count-wanted : goal.round-returns-then-count-wanted
round-returns-then-count-wanted g t c =
    let s = c.args.slot.now in
    let from = c.args.from.now in
    let stop = option_copied c.args.stop in
    let wanted = c.args.limit - c.len.result in
    let scan = scan_added (value g.U.Update.means s.child.value) from stop wanted c.new-below.result.items c.walk.new.pairs.items c.new-below.ensures.items (subst (λ n. AddsScan (value g.U.Update.means n) from stop wanted c.new-below.result.items c.walk.new.pairs.items) c.deref.ensures c.in_ok-walk.ensures) in
    round_last g.U.Update.means s from stop c.args.limit wanted c.walk.new.pairs.items c.args.pairs.now.items c.apply_pass.new.pairs.items scan c.requires.clear (omega (arith, c.len-count.ensures, c.walk.new.pairs.ok.0, c.if-count-wanted.true)) c.in_ok-apply_pass.ensures

pub round-returns-then-len-limit : goal.round-returns-then-len-limit
round-returns-then-len-limit g t c =
    let s = c.args.slot.now in
    let from = c.args.from.now in
    let stop = option_copied c.args.stop in
    let wanted = c.args.limit - c.len.result in
    let scan = scan_added (value g.U.Update.means s.child.value) from stop wanted c.new-below.result.items c.walk.new.pairs.items c.new-below.ensures.items (subst (λ n. AddsScan (value g.U.Update.means n) from stop wanted c.new-below.result.items c.walk.new.pairs.items) c.deref.ensures c.in_ok-walk.ensures) in
    let some : 0 < c.len-count.result = omega (arith, c.if-count-wanted.false, c.requires.room, c.len.ensures, c.args.pairs.now.ok.0) in
    round_full g.U.Update.means s from stop c.args.limit wanted c.walk.new.pairs.items c.args.pairs.now.items c.apply_pass-2.new.pairs.items scan c.requires.clear c.in_ok-next.next c.index-last.result.now c.len-count.result (omega (arith, c.len-count.ensures, c.walk.new.pairs.ok.0)) some c.index-last.ensures c.in_ok-next.ensures c.in_ok-apply_pass-2.ensures (omega (arith, c.len-2.ensures, c.apply_pass-2.new.pairs.ok.0, c.if-len-limit.true))

pub round-returns : goal.round-returns
round-returns g t c =
    let s = c.args.slot.now in
    let from = c.args.from.now in
    let stop = option_copied c.args.stop in
    let wanted = c.args.limit - c.len.result in
    let scan = scan_added (value g.U.Update.means s.child.value) from stop wanted c.new-below.result.items c.walk.new.pairs.items c.new-below.ensures.items (subst (λ n. AddsScan (value g.U.Update.means n) from stop wanted c.new-below.result.items c.walk.new.pairs.items) c.deref.ensures c.in_ok-walk.ensures) in
    let some : 0 < c.len-count.result = omega (arith, c.if-count-wanted.false, c.requires.room, c.len.ensures, c.args.pairs.now.ok.0) in
    let enough : c.args.limit ≤ length c.args.pairs.now.items + c.len-count.result = omega (arith, c.if-count-wanted.false, c.requires.room, c.len.ensures, c.args.pairs.now.ok.0) in
    round_goes_on g.U.Update.means s from stop c.args.limit wanted c.walk.new.pairs.items c.args.pairs.now.items c.apply_pass-2.new.pairs.items scan c.requires.clear c.in_ok-next.next c.index-last.result.now c.len-count.result (omega (arith, c.len-count.ensures, c.walk.new.pairs.ok.0)) some c.index-last.ensures c.in_ok-next.ensures c.in_ok-apply_pass-2.ensures enough (omega (arith, c.len-2.ensures, c.apply_pass-2.new.pairs.ok.0, c.if-len-limit.false))
