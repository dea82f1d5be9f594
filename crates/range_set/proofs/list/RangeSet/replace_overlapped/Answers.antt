use Rattle.std.proofs.Common.{sym, subst, arith}
use Rattle.range_set.specs.Disjoint.{AreApart}
use Rattle.range_set.specs.Ends.{EndBefore, IsFree}
use Rattle.range_set.proofs.Splicing.{spliced_apart}
use Rattle.range_set.proofs.list.RangeSet.replace_overlapped.Goals as goal

pub invariant_of-self-2 : goal.invariant_of-self-2
invariant_of-self-2 c =
    let rs = c.self.inside.rows in
    let low = subst (λ t. EndBefore c.args.range.lo t) (sym c.self.view_is) c.requires.low in
    let high = subst (λ t. IsFree t c.args.range.hi) (sym c.self.view_is) c.requires.high in
    record {
      apart = subst (λ t. AreApart t) (sym c.in_ok-gone.ensures.ok) (spliced_apart c.args.range rs c.requires.some c.self.invariant.apart low high);
      counted = omega (arith, c.self.invariant.counted, c.in_ok-gone.ensures.counted);
    }
