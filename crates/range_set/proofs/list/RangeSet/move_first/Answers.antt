use Rattle.std.proofs.Common.{sym, subst, ap, arith}
use mir.Val.{bool_byte}
use Rattle.range_set.specs.Disjoint.{TakesFirst}
use Rattle.range_set.specs.Ends.{FitsFirst}
use Rattle.range_set.proofs.Splicing.{moved_apart, moved_counted, moved_first}
use Rattle.range_set.proofs.list.RangeSet.move_first.Goals as goal

pub invariant_of-self-2 : goal.invariant_of-self-2
invariant_of-self-2 c =
    let rs = c.self.inside.rows in
    let es = c.from.inside.rows in
    let was = c.in_ok-replaced.replaced in
    let fits = subst (λ t. FitsFirst t rs) (sym c.from.view_is) (subst (λ t. FitsFirst c.args.from.now t) (sym c.self.view_is) c.requires.fits) in
    record {
      apart = moved_apart es c.move_first_from.new.from rs c.move_first_from.new.self was c.in_ok-replaced.ensures.moved fits;
      counted = omega (arith, c.self.invariant.counted, ap (λ b. bool_byte b) c.is_some.ensures, moved_counted es c.move_first_from.new.from rs c.move_first_from.new.self was c.in_ok-replaced.ensures.moved c.self.invariant.apart);
    }

pub returns-clause-taken : goal.returns-clause-taken
returns-clause-taken c =
    let rs = c.self.inside.rows in
    let es = c.from.inside.rows in
    let was = c.in_ok-replaced.replaced in
    let fits = subst (λ t. FitsFirst t rs) (sym c.from.view_is) (subst (λ t. FitsFirst c.args.from.now t) (sym c.self.view_is) c.requires.fits) in
    let taken = moved_first es c.move_first_from.new.from rs c.move_first_from.new.self was c.in_ok-replaced.ensures.moved c.self.invariant.apart fits in
    subst (λ t. TakesFirst t c.move_first_from.new.from c.args.self.now c.move_first_from.new.self) c.from.view_is (subst (λ t. TakesFirst es c.move_first_from.new.from t c.move_first_from.new.self) c.self.view_is taken)
