use Rattle.std.proofs.Common.{◌≡◌, Err, ap, ◌∙◌}
use Rattle.images.specs.declared.load.LoadFault.TheVariants.{Bad}
use Rattle.images.proofs.loader.ImageLoader.end.Goals as goal

pub returns-in-Err-clause-bad : goal.returns-in-Err-clause-bad
returns-in-Err-clause-bad c = λ shape text n took e.
    let same : c.in-Err.fault ≡ Bad n = cc in
    c.ended-reported.ensures.bad shape text n took (c.in-Err.is ∙ ap Err same)
