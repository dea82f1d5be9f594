use Rattle.std.proofs.Common.{◌++◌, List, ℕ, eqb, sym, ap, ◌∙◌}
use Rattle.std.proofs.lemmas.Slice.Eq.{strip_prefix_is}
use Rattle.std.proofs.lemmas.Option.{MatchOption-at_none, MatchOption-at_some}
use Rattle.std.proofs.lemmas.Bool.Decides.{Decides-eqb}
use Rattle.pathkey.proofs.encode.rekey.Goals as goal

pub returns-in_default : goal.returns-in_default
returns-in_default c = λ z e.
    let old = c.as_bytes-2.ensures ∙ c.key.ensures.value in
    MatchOption-at_none _ _ c.in_default.is (strip_prefix_is {E = eqb} Decides-eqb _ _ _ c.strip_prefix.ensures.cases)
    z (c.as_bytes.ensures ∙ e ∙ ap (λ (x : List ℕ). x ++ z) (sym old))

pub returns : goal.returns
returns c =
    let old = c.as_bytes-2.ensures ∙ c.key.ensures.value in
    let new = c.as_bytes-3.ensures ∙ c.key-2.ensures.value in
    let split = MatchOption-at_some _ _ _ c.in-Some.is (strip_prefix_is {E = eqb} Decides-eqb _ _ _ c.strip_prefix.ensures.cases) in (
      c.in-Some.rest.now,
      sym c.as_bytes.ensures ∙ split ∙ ap (λ (x : List ℕ). x ++ c.in-Some.rest.now) old,
      c.in_ok-key.ensures ∙ ap (λ (x : List ℕ). x ++ c.in-Some.rest.now) new,
    )
