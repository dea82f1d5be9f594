use Rattle.std.proofs.Common.{◌≡◌, ℕ, List, Option, Some, None, ap, sym, ◌∙◌}
use Rattle.std.proofs.lemmas.Option.{same_Some}
use Rattle.textio.specs.Values.{bytes_of}
use Rattle.textio.proofs.Written.{bytes_reported}
use Rattle.attributes.proofs.reading.bytes_of.Goals as goal

pub returns-in-Some : goal.returns-in-Some
returns-in-Some c = λ v are e. same_Some {A = List ℕ} c.in-Some.bytes v (sym c.in-Some.is ∙ c.in_ok-bytes.ensures.read ∙ ap bytes_of e ∙ sym (bytes_reported v are))

pub returns-in_ok-copy_from_slice-in-None : goal.returns-in_ok-copy_from_slice-in-None
returns-in_ok-copy_from_slice-in-None c = λ v are e.
    let clash : ◌≡◌ {A = Option (List ℕ)} None (Some v) = sym c.in-None.is ∙ c.in_ok-bytes.ensures.read ∙ ap bytes_of e ∙ sym (bytes_reported v are) in
    absurd (cc)
