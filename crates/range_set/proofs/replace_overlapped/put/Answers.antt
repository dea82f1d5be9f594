use Rattle.std.proofs.Common.{◌∙◌, ap, sym, length, arith}
use Rattle.range_set.proofs.Splicing.{put_new, put_over}
use Rattle.range_set.proofs.replace_overlapped.put.Goals as goal

pub returns-in-Ok-None-clause-counted : goal.returns-in-Ok-None-clause-counted
returns-in-Ok-None-clause-counted c =
    let made = ap (λ t. length t) c.in-Ok-None.ensures.0 in
    omega (arith, made, put_new c.args.range.lo c.args.range.hi c.args.rows.now c.assert_invariant.ensures (sym c.in-Ok-None.field-0-is ∙ c.in-Ok-None.ensures.1))

pub returns-in-Ok-Some-clause-counted : goal.returns-in-Ok-Some-clause-counted
returns-in-Ok-Some-clause-counted c =
    let made = ap (λ t. length t) c.in-Ok-Some.ensures.0 in
    omega (arith, made, put_over c.args.range.lo c.args.range.hi c.in-Ok-Some.field-0-0 c.args.rows.now c.assert_invariant.ensures (sym c.in-Ok-Some.field-0-is ∙ c.in-Ok-Some.ensures.1))
