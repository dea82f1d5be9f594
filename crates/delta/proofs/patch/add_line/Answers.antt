use Rattle.std.proofs.Common.{◌++◌, ◌∙◌}
use Rattle.images.specs.Taken.{Took}
use Rattle.delta.proofs.LoaderFacts.{spoilt_line, spoilt_whole}
use Rattle.delta.proofs.patch.add_line.Goals as goal

pub returns-in-Err-clause-spoilt : goal.returns-in-Err-clause-spoilt
returns-in-Err-clause-spoilt c = λ s text took e. spoilt_line text c.args.line.now (c.add_piece.ensures.spoilt s text took (c.in-Err.is ∙ e))

pub returns-clause-spoilt : goal.returns-clause-spoilt
returns-clause-spoilt c = λ s text took e.
    let first : Took s (text ++ c.args.line.now) c.add_piece.new.loader = rw c.in_default.is at c.add_piece.ensures.took s text took in
    spoilt_whole text c.args.line.now (c.add_piece-2.ensures.spoilt s (text ++ c.args.line.now) first e)
