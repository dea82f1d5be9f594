use Rattle.std.proofs.Common.{◌≡◌, ◌∙◌, sym, true, arith, get_or}
use Rattle.std.specs.Char.{is_ascii_digit}
use Rattle.textio.proofs.ValueFacts.{one_more_fits, one_more_below, one_more_value, one_more_digit}
use Rattle.textio.proofs.values.read_digits.Goals as goal

pub overflow_mul-number : goal.overflow_mul-number
overflow_mul-number c =
    let fits = one_more_fits c.loop-byte.byte-index c.loop-byte.number (get_or c.args.digits.now c.loop-byte.byte-index 0) (omega (arith, c.loop-byte-test.true, c.requires)) c.loop-byte.invariant.below (sym c.is_ascii_digit.ensures.value ∙ c.if-not-is_ascii_digit.false) in
    omega (arith, fits)

pub overflow_add-number : goal.overflow_add-number
overflow_add-number c =
    let fits = one_more_fits c.loop-byte.byte-index c.loop-byte.number (get_or c.args.digits.now c.loop-byte.byte-index 0) (omega (arith, c.loop-byte-test.true, c.requires)) c.loop-byte.invariant.below (sym c.is_ascii_digit.ensures.value ∙ c.if-not-is_ascii_digit.false) in
    omega (arith, fits)

pub loop-byte-preserved : goal.loop-byte-preserved
loop-byte-preserved c =
    let digit : is_ascii_digit (get_or c.args.digits.now c.loop-byte.byte-index 0) ≡ true = sym c.is_ascii_digit.ensures.value ∙ c.if-not-is_ascii_digit.false in
    record {
      digits = one_more_digit c.args.digits.now c.loop-byte.byte-index c.loop-byte-test.true digit c.loop-byte.invariant.digits;
      value = one_more_value c.args.digits.now c.loop-byte.byte-index c.loop-byte.number c.loop-byte-test.true digit c.loop-byte.invariant.value;
      below = one_more_below c.loop-byte.byte-index c.loop-byte.number (get_or c.args.digits.now c.loop-byte.byte-index 0) c.loop-byte.invariant.below digit;
    }
