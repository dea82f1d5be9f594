use Rattle.std.proofs.Common.{◌≡◌, ◌++◌, ◌∙◌, Err, ap, sym}
use Rattle.delta.specs.declared.fault.DeltaFault.TheVariants.{NoImage}
use Rattle.delta.proofs.LoaderFacts.{spoils}
use Rattle.delta.proofs.patch.add_piece.Goals as goal

pub returns-in-Err-clause-spoilt : goal.returns-in-Err-clause-spoilt
returns-in-Err-clause-spoilt c = λ s text took e.
    let none : c.fault_of.result ≡ NoImage = cc in
    let bad = c.fault_of.ensures.bad.0 none in
    spoils s (text ++ c.args.piece.now) c.feed.new.self bad.0 (sym c.feed.ensures.answer ∙ c.in-Err.is ∙ ap Err bad.1) (c.feed.ensures.took s text took)
