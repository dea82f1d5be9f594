use Rattle.std.proofs.Common.{◌≡◌, ◌<◌, ◌≤◌, ◌+◌, ◌-◌, ◌/◌, true, false, length, arith, refl, rules, sym, subst, ap, ◌∙◌}
use Rattle.std.specs.Ordering.{is_le}
use Rattle.pathkey.specs.Order.{by_bytes}
use Rattle.cow_map.specs.CowMap.{first_key}
use Rattle.cow_map.proofs.Searching.{alike, fallen, last_left, least_left, least_right, number_found, number_here, number_last, risen, row_some, rows_ascend}
use Rattle.cow_map.proofs.chunks.chunk_before.Goals as goal

pub cmp_from-order-requires : goal.cmp_from-order-requires
cmp_from-order-requires g c =
    let rs = c.args.rows.now in
    let at = length rs - 1 in
    let r = c.index-rows-last.result in
    let some : length rs ≡ at + 1 = search rules in
    subst (λ t. 0 < length t) (sym c.index-rows-last.is) (row_some rs at r c.requires.sized (omega (arith, some)))

pub returns-then-is_le-clause-number : goal.returns-then-is_le-clause-number
returns-then-is_le-clause-number g c =
    let rs = c.args.rows.now in
    let at = length rs - 1 in
    let r = c.index-rows-last.result in
    let some : length rs ≡ at + 1 = search rules in
    let le : is_le (by_bytes (first_key r) c.args.key.now) ≡ true = ap is_le (sym (c.cmp_from-order.ensures.order refl)) ∙ sym c.is_le.ensures ∙ c.if-is_le.true in
    number_last c.args.key.now rs at r c.requires some c.index-rows-last.is le

pub loop-low-init : goal.loop-low-init
loop-low-init g c =
    let rs = c.args.rows.now in
    let at = length rs - 1 in
    let r = c.index-rows-last.result in
    let some : length rs ≡ at + 1 = search rules in
    let behind : is_le (by_bytes (first_key r) c.args.key.now) ≡ false = ap is_le (sym (c.cmp_from-order.ensures.order refl)) ∙ sym c.is_le.ensures ∙ c.if-is_le.false in
    last_left c.args.key.now rs at c.cmp_from-order.result.1 r c.requires some c.index-rows-last.is behind (c.cmp_from-order.ensures.same refl)

pub cmp_from-order-requires-in-loop-low : goal.cmp_from-order-requires-in-loop-low
cmp_from-order-requires-in-loop-low g c =
    let l = c.loop-low in
    let at = l.low + (l.high - l.low) / 2 in
    let bound : at < length c.args.rows.now = omega (arith, c.loop-low-test.true, l.invariant.bound) in
    subst (λ t. 0 < length t) (sym c.index-rows-at.is) (row_some c.args.rows.now at c.index-rows-at.result c.requires.sized bound)

pub loop-low-preserved-in-Less : goal.loop-low-preserved-in-Less
loop-low-preserved-in-Less g c =
    let rs = c.args.rows.now in
    let k = c.args.key.now in
    let l = c.loop-low in
    let at = l.low + (l.high - l.low) / 2 in
    let r = c.index-rows-at.result in
    let from : l.low ≤ at = omega arith in
    let high : at < l.high = omega (arith, c.loop-low-test.true) in
    let few : c.min.result ≤ l.below = subst (λ n. n ≤ l.below) (sym c.min.ensures) (least_left l.below l.above) in
    let least : c.min.result ≤ l.above = subst (λ n. n ≤ l.above) (sym c.min.ensures) (least_right l.below l.above) in
    let begun = alike first_key rs k l.low l.high l.below l.above at c.min.result r l.invariant from high c.index-rows-at.is few least in
    risen first_key rs k l.low l.high l.below l.above at c.cmp_from-order-in-loop-low.result.1 r l.invariant from high c.index-rows-at.is (rows_ascend rs c.requires) (sym (c.cmp_from-order-in-loop-low.ensures.order begun) ∙ c.in-Less.is) (c.cmp_from-order-in-loop-low.ensures.same begun)

pub returns-in-Equal-clause-number : goal.returns-in-Equal-clause-number
returns-in-Equal-clause-number g c =
    let rs = c.args.rows.now in
    let k = c.args.key.now in
    let l = c.loop-low in
    let at = l.low + (l.high - l.low) / 2 in
    let r = c.index-rows-at.result in
    let from : l.low ≤ at = omega arith in
    let high : at < l.high = omega (arith, c.loop-low-test.true) in
    let few : c.min.result ≤ l.below = subst (λ n. n ≤ l.below) (sym c.min.ensures) (least_left l.below l.above) in
    let least : c.min.result ≤ l.above = subst (λ n. n ≤ l.above) (sym c.min.ensures) (least_right l.below l.above) in
    let begun = alike first_key rs k l.low l.high l.below l.above at c.min.result r l.invariant from high c.index-rows-at.is few least in
    number_here k rs at r c.requires (omega (arith, high, l.invariant.bound)) c.index-rows-at.is (sym (c.cmp_from-order-in-loop-low.ensures.order begun) ∙ c.in-Equal.is)

pub loop-low-preserved : goal.loop-low-preserved
loop-low-preserved g c =
    let rs = c.args.rows.now in
    let k = c.args.key.now in
    let l = c.loop-low in
    let at = l.low + (l.high - l.low) / 2 in
    let r = c.index-rows-at.result in
    let from : l.low ≤ at = omega arith in
    let high : at < l.high = omega (arith, c.loop-low-test.true) in
    let few : c.min.result ≤ l.below = subst (λ n. n ≤ l.below) (sym c.min.ensures) (least_left l.below l.above) in
    let least : c.min.result ≤ l.above = subst (λ n. n ≤ l.above) (sym c.min.ensures) (least_right l.below l.above) in
    let begun = alike first_key rs k l.low l.high l.below l.above at c.min.result r l.invariant from high c.index-rows-at.is few least in
    fallen first_key rs k l.low l.high l.below l.above at c.cmp_from-order-in-loop-low.result.1 r l.invariant from high c.index-rows-at.is (rows_ascend rs c.requires) (sym (c.cmp_from-order-in-loop-low.ensures.order begun) ∙ c.in-Greater.is) (c.cmp_from-order-in-loop-low.ensures.same begun)

pub returns-clause-number : goal.returns-clause-number
returns-clause-number g c = number_found c.args.key.now c.args.rows.now c.loop-low.low c.loop-low.high c.loop-low.below c.loop-low.above c.requires c.loop-low.invariant (omega (arith, c.loop-low-test.false))
