use Rattle.std.proofs.Common.{◌<◌, ◌≤◌, ◌+◌, ◌-◌, List, ℕ, arith, sym, ◌∙◌}
use Rattle.cow_map.proofs.Searching.{alike, entries_ascend, fallen, holder_found, risen}
use Rattle.cow_map.proofs.search.narrow.Goals as goal

pub loop-low-preserved : goal.loop-low-preserved
loop-low-preserved g c =
    let es = c.args.entries.now in
    let k = c.args.key.now in
    let l = c.loop-low in
    let r = c.args.rest in
    let at = l.low + (c.args.stride - 1) in
    let x = c.index-entries-at.result in
    let key = λ (e : List ℕ × g.row.T.Denot). e.0 in
    let from : l.low ≤ at = omega arith in
    let high : at < r.high = omega (arith, c.loop-low-test.true, c.requires.stride) in
    let few : c.min.result ≤ l.below = omega (arith, c.min.ensures) in
    let least : c.min.result ≤ r.above = omega (arith, c.min.ensures) in
    let begun = alike key es k l.low r.high l.below r.above at c.min.result x l.invariant from high c.index-entries-at.is few least in
    risen key es k l.low r.high l.below r.above at c.cmp_from-order.result.1 x l.invariant from high c.index-entries-at.is (entries_ascend es c.requires.rises) (sym (c.cmp_from-order.ensures.order begun) ∙ c.in-Less.is) (c.cmp_from-order.ensures.same begun)

pub returns-in-Equal-clause-found : goal.returns-in-Equal-clause-found
returns-in-Equal-clause-found g c =
    let es = c.args.entries.now in
    let k = c.args.key.now in
    let l = c.loop-low in
    let r = c.args.rest in
    let at = l.low + (c.args.stride - 1) in
    let x = c.index-entries-at.result in
    let key = λ (e : List ℕ × g.row.T.Denot). e.0 in
    let from : l.low ≤ at = omega arith in
    let high : at < r.high = omega (arith, c.loop-low-test.true, c.requires.stride) in
    let few : c.min.result ≤ l.below = omega (arith, c.min.ensures) in
    let least : c.min.result ≤ r.above = omega (arith, c.min.ensures) in
    let begun = alike key es k l.low r.high l.below r.above at c.min.result x l.invariant from high c.index-entries-at.is few least in
    holder_found k es at x c.requires.rises (omega (arith, high, l.invariant.bound)) c.index-entries-at.is (sym (c.cmp_from-order.ensures.order begun) ∙ c.in-Equal.is)

pub returns-in-Greater-clause-rest : goal.returns-in-Greater-clause-rest
returns-in-Greater-clause-rest g c =
    let es = c.args.entries.now in
    let k = c.args.key.now in
    let l = c.loop-low in
    let r = c.args.rest in
    let at = l.low + (c.args.stride - 1) in
    let x = c.index-entries-at.result in
    let key = λ (e : List ℕ × g.row.T.Denot). e.0 in
    let from : l.low ≤ at = omega arith in
    let high : at < r.high = omega (arith, c.loop-low-test.true, c.requires.stride) in
    let few : c.min.result ≤ l.below = omega (arith, c.min.ensures) in
    let least : c.min.result ≤ r.above = omega (arith, c.min.ensures) in
    let begun = alike key es k l.low r.high l.below r.above at c.min.result x l.invariant from high c.index-entries-at.is few least in
    fallen key es k l.low r.high l.below r.above at c.cmp_from-order.result.1 x l.invariant from high c.index-entries-at.is (entries_ascend es c.requires.rises) (sym (c.cmp_from-order.ensures.order begun) ∙ c.in-Greater.is) (c.cmp_from-order.ensures.same begun)
