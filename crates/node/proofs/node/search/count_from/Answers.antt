use Rattle.std.proofs.Common.{rules, ap, sym, subst, ◌≡◌, ◌<◌, ◌≤◌, length, get_or, arith}
use Rattle.std.specs.Ordering.{is_le}
use Rattle.std.specs.declared.cmp.Ordering.TheVariants.{Greater}
use Rattle.pathkey.specs.Heads.{AreBytes, head_of}
use Rattle.pathkey.specs.Order.{by_bytes}
use Rattle.node.proofs.SlotFacts.{begun_at, begun_here}
use Rattle.node.proofs.HeadSearch.{behind_head}
use Rattle.node.proofs.node.search.count_from.Goals as goal

pub returns-in_default-clause-point : goal.returns-in_default-clause-point
returns-in_default-clause-point g c =
    let xs = c.args.slots.now in
    let i = c.args.low in
    let b : length xs ≤ i = search rules in
    begun_at c.args.key.now xs i c.requires.rising c.requires.low.front (λ d l. absurd (omega arith))

pub returns-then-head-clause-point : goal.returns-then-head-clause-point
returns-then-head-clause-point g c =
    let k = c.args.key.now in
    let xs = c.args.slots.now in
    let i = c.args.low in
    let s = c.in-Some.slot.now in
    let b : i < length xs = search rules in
    let at : s ≡ get_or xs i s = search rules in
    let least : AreBytes s.lo → AreBytes k → head_of k ≤ head_of s.lo = subst (λ x. AreBytes x.lo → AreBytes k → head_of k ≤ head_of x.lo) (sym at) (c.requires.low.next s b) in
    let behind : by_bytes s.lo k ≡ Greater = behind_head s.lo k c.head.result c.head-2.result c.head.ensures c.head-2.ensures c.if-head.true least in
    begun_here k xs i s c.requires.rising c.requires.low.front b at (ap is_le behind)
