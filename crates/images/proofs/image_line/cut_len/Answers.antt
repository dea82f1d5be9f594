use Rattle.std.proofs.Common.{◌≡◌, ◌^◌, ◌<◌, ℕ, Option, Some, None, decimal, sym, ap, ◌∙◌, arith}
use Rattle.std.specs.Prelude.{option_map}
use Rattle.std.proofs.lemmas.Option.{same_Some}
use Rattle.images.specs.Image.{version_of}
use Rattle.images.proofs.ImageLineFacts.{decimal_free, len_spelled, no_moment_cut}
use Rattle.images.proofs.image_line.cut_len.Goals as goal

pub returns-in_default-clause-complete : goal.returns-in_default-clause-complete
returns-in_default-clause-complete c = λ n at few reported e.
    let small : n < 2 ^ 64 = omega arith in
    absurd (no_moment_cut (version_of c.args.version) c.args.numbers.now _ c.cut_moment.ensures (ap (option_map _) c.in_default.is) (decimal n) at (decimal_free n small) reported e)

pub returns-in_default-read_number-clause-complete : goal.returns-in_default-read_number-clause-complete
returns-in_default-read_number-clause-complete c = λ n at few reported e.
    let spelled = len_spelled (version_of c.args.version) c.args.numbers.now c.in-Some.number.now _ c.cut_moment.ensures c.in-Some.at (ap (option_map _) c.in-Some.is) n at few reported e in
    let clash : ◌≡◌ {A = Option ℕ} None (Some n) = sym c.in_default-read_number.is ∙ c.read_number.ensures ∙ spelled.0 in cc

pub returns-then-len-gt-GREATEST_FILE-clause-complete : goal.returns-then-len-gt-GREATEST_FILE-clause-complete
returns-then-len-gt-GREATEST_FILE-clause-complete c = λ n at few reported e.
    let spelled = len_spelled (version_of c.args.version) c.args.numbers.now c.in-Some.number.now _ c.cut_moment.ensures c.in-Some.at (ap (option_map _) c.in-Some.is) n at few reported e in
    let same : c.in-Some-read_number.len ≡ n = same_Some _ _ (sym c.in-Some-read_number.is ∙ c.read_number.ensures ∙ spelled.0) in
    absurd (omega (arith, c.if-len-gt-GREATEST_FILE.true))

pub returns-clause-complete : goal.returns-clause-complete
returns-clause-complete c = λ n at few reported e.
    let spelled = len_spelled (version_of c.args.version) c.args.numbers.now c.in-Some.number.now _ c.cut_moment.ensures c.in-Some.at (ap (option_map _) c.in-Some.is) n at few reported e in
    let same : c.in-Some-read_number.len ≡ n = same_Some _ _ (sym c.in-Some-read_number.is ∙ c.read_number.ensures ∙ spelled.0) in
    ap (λ (k : ℕ). Some (k, c.in-Some.at)) same ∙ ap (λ (k : ℕ). Some (n, k)) spelled.1
