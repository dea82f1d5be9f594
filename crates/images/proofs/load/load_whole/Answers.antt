use Rattle.std.proofs.Common.{◌≡◌, [], Err, ap, sym, ◌∙◌}
use Rattle.images.specs.declared.load.LoadFault.TheVariants.{Bad}
use Rattle.images.proofs.TakenFacts.{bad_so_far}
use Rattle.images.proofs.load.load_whole.Goals as goal

pub returns-in-Err-clause-bad : goal.returns-in-Err-clause-bad
returns-in-Err-clause-bad c = λ s n fresh e.
    let same : c.in-Err.fault ≡ Bad n = cc in
    bad_so_far s c.args.text.now _ n (sym c.feed.ensures.answer ∙ c.in-Err.is ∙ ap Err same) (c.feed.ensures.took s [] fresh.1)

pub returns-clause-bad : goal.returns-clause-bad
returns-clause-bad c = λ s n fresh e. c.end.ensures.bad s c.args.text.now n (c.feed.ensures.took s [] fresh.1) e
