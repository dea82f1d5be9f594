use Rattle.std.proofs.Common.{[], ap, refl, sym, subst, ◌∙◌}
use Rattle.reference.specs.Tree.{Dir, nothing}
use Rattle.volume.specs.Volumes.{Means}
use Rattle.images.specs.Loads.{HasRead, alone, form_of}
use Rattle.images.proofs.LoadFacts.{nothing_read}
use Rattle.images.proofs.loader.ImageLoader.over.Goals as goal

pub returns-clause-fresh : goal.returns-clause-fresh
returns-clause-fresh c = λ shape form.
    let made = c.new.result in
    let read = nothing_read made (subst (λ v. Means v (alone (Dir 0 nothing))) (sym c.new.ensures.volume) c.requires)
    c.new.ensures.nothing.0 c.new.ensures.nothing.1 c.new.ensures.nothing.2 c.new.ensures.nothing.3 c.new.ensures.nothing.4 in
    (refl, (subst (λ items. HasRead [] items made) (sym c.in-Ok.ensures.items) read, ap form_of c.new.ensures.volume ∙ form))
