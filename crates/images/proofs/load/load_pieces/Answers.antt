use Rattle.std.proofs.Common.{◌≡◌, Err, ap, ◌∙◌}
use Rattle.images.specs.declared.load.LoadFault.TheVariants.{Bad, Read}
use Rattle.images.proofs.TakenFacts.{all_bad, all_loaded}
use Rattle.images.proofs.load.load_pieces.Goals as goal

pub returns-in-Err-clause-bad : goal.returns-in-Err-clause-bad
returns-in-Err-clause-bad g c = λ s n fresh e.
    let same : c.in-Err.fault ≡ Bad n = cc in
    c.take_all.ensures.bad s n fresh (c.in-Err.is ∙ ap Err same)

pub returns-in-Err-clause-read : goal.returns-in-Err-clause-read
returns-in-Err-clause-read g c = λ s fresh e.
    let same : c.in-Err.fault ≡ Read = cc in
    c.take_all.ensures.read s fresh (c.in-Err.is ∙ ap Err same)

pub returns-clause-loaded : goal.returns-clause-loaded
returns-clause-loaded g c = λ s fresh. all_loaded s _ _ _ c.end.result (c.in_default-take_all.ensures.ok s fresh) c.end.ensures.loaded

pub returns-clause-bad : goal.returns-clause-bad
returns-clause-bad g c = λ s n fresh e. all_bad s _ _ _ n (c.in_default-take_all.ensures.ok s fresh) (λ text took. c.end.ensures.bad s text n took e)
