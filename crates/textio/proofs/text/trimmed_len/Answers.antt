use Rattle.std.proofs.Common.{◌≡◌, ◌+◌, ◌-◌, ℕ, take, sym, ap, ◌∙◌, arith}
use Rattle.reference.specs.Image.{trimmed}
use Rattle.textio.proofs.Trimmed.{trimmed_less, trimmed_whole}
use Rattle.textio.proofs.text.trimmed_len.Goals as goal

pub loop-kept-preserved : goal.loop-kept-preserved
loop-kept-preserved c =
    let whole : c.loop-kept.kept - 1 + 1 ≡ c.loop-kept.kept = omega (arith, c.loop-kept-test.true) in (
      omega (arith, c.loop-kept.invariant.0),
      trimmed_less c.args.bytes.now (c.loop-kept.kept - 1) c.if-bytes-kept-eq0.true ∙ ap (λ (k : ℕ). trimmed (take k c.args.bytes.now)) whole ∙ c.loop-kept.invariant.1,
    )

pub returns-else-bytes-kept-eq0-clause-kept : goal.returns-else-bytes-kept-eq0-clause-kept
returns-else-bytes-kept-eq0-clause-kept c =
    let whole : c.loop-kept.kept - 1 + 1 ≡ c.loop-kept.kept = omega (arith, c.loop-kept-test.true) in
    ap (λ (k : ℕ). take k c.args.bytes.now) (sym whole)
    ∙ sym (trimmed_whole c.args.bytes.now (c.loop-kept.kept - 1) (omega (arith, c.loop-kept.invariant.0, c.loop-kept-test.true)) c.if-bytes-kept-eq0.false)
    ∙ ap (λ (k : ℕ). trimmed (take k c.args.bytes.now)) whole
    ∙ c.loop-kept.invariant.1
