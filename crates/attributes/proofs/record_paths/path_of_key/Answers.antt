use Rattle.std.proofs.Common.{Some, None, inl, subst, ◌∙◌}
use Rattle.pathkey.specs.PathKeys.{IsPathOf}
use Rattle.attributes.proofs.PlaceFacts.{fitting_none, fitting_some}
use Rattle.attributes.proofs.record_paths.path_of_key.Goals as goal

pub returns-in-Some : goal.returns-in-Some
returns-in-Some c = λ p plain is.
    let found : IsPathOf c.in_ok-key.key (Some c.in-Some.path) = subst (IsPathOf c.in_ok-key.key) c.in-Some.is c.in_ok-path.ensures in
    inl (fitting_some p c.in-Some.path c.in_ok-key.key plain (c.in_ok-key.ensures ∙ is) found)

pub returns : goal.returns
returns c = λ p plain is.
    let none : IsPathOf c.in_ok-key.key None = subst (IsPathOf c.in_ok-key.key) c.in-None.is c.in_ok-path.ensures in
    inl (fitting_none p c.in_ok-key.key plain (c.in_ok-key.ensures ∙ is) none)
