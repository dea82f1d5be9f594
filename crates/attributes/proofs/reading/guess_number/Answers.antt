use Rattle.std.proofs.Common.{◌≡◌, ℕ, Option, Some, None, decimal, sym, ◌∙◌}
use Rattle.std.proofs.lemmas.Option.{same_Some}
use Rattle.textio.proofs.Written.{number_reported}
use Rattle.attributes.proofs.ReadFacts.{free_decimal, line_grouped}
use Rattle.attributes.proofs.reading.guess_number.Goals as goal

pub returns-in-Some : goal.returns-in-Some
returns-in-Some c = λ n rest few e.
    let parts = c.value_of.ensures (decimal n) rest (free_decimal n few) (e ∙ line_grouped c.args.word.now (decimal n) rest) in
    (same_Some c.in-Some.number n (sym c.in-Some.is ∙ c.read_number.ensures ∙ number_reported _ n few parts.0), parts.1)

pub returns-in-None : goal.returns-in-None
returns-in-None c = λ n rest few e.
    let parts = c.value_of.ensures (decimal n) rest (free_decimal n few) (e ∙ line_grouped c.args.word.now (decimal n) rest) in
    let clash : ◌≡◌ {A = Option ℕ} None (Some n) = sym c.in-None.is ∙ c.read_number.ensures ∙ number_reported _ n few parts.0 in
    absurd (cc)
