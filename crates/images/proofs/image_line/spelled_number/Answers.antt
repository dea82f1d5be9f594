use Rattle.std.proofs.Common.{◌≡◌, ℕ, Option, Some, None, decimal, true, sym, ap, ◌∙◌}
use Rattle.std.proofs.lemmas.Option.{same_Some}
use Rattle.textio.proofs.Written.{number_reported}
use Rattle.images.proofs.image_line.spelled_number.Goals as goal

pub returns-in_default : goal.returns-in_default
returns-in_default c = λ n few e.
    let clash : ◌≡◌ {A = Option ℕ} None (Some n) = sym c.in_default.is ∙ c.read_number.ensures ∙ number_reported c.args.word.now n few e in cc

pub returns-else-writes : goal.returns-else-writes
returns-else-writes c = λ n few e.
    let same : c.in-Some.number ≡ n = same_Some _ _ (sym c.in-Some.is ∙ c.read_number.ensures ∙ number_reported c.args.word.now n few e) in
    let yes : c.writes.result ≡ true = c.writes.ensures.1 (e ∙ ap decimal (sym same)) in cc
