use Rattle.std.proofs.Common.{ap, sym, subst, length, length-drop, arith}
use Rattle.range_set.specs.Disjoint.{AreApart}
use Rattle.range_set.proofs.Ends.{apart_drop}
use Rattle.range_set.proofs.list.RangeSet.drop_front.Goals as goal

pub invariant_of-self : goal.invariant_of-self
invariant_of-self c =
    let rs = c.self.inside.rows in
    let n = c.args.count in
    record {
      apart = subst (λ t. AreApart t) (sym c.drop_front.ensures) (apart_drop n rs c.self.invariant.apart);
      counted = omega (arith, ap (λ t. length t) c.drop_front.ensures, length-drop n rs, c.self.invariant.counted);
    }
