use Rattle.std.proofs.Common.{◌∙◌, sym}
use Rattle.images.proofs.TakenFacts.{open_from_ok, took_piece, took_refused}
use Rattle.images.proofs.loader.ImageLoader.feed.Goals as goal

pub returns-in-Err-clause-took : goal.returns-in-Err-clause-took
returns-in-Err-clause-took c = λ shape text took. took_refused shape text c.args.piece.now c.args.self.now c.in-Err.fault (sym c.answer.ensures ∙ c.in-Err.is) took

pub returns-clause-took : goal.returns-clause-took
returns-clause-took c = λ shape text took.
    took_piece shape text c.args.piece.now c.args.self.now _ c.take_piece-taken.result (open_from_ok _ (sym c.answer.ensures ∙ c.in_default.is)) c.intake_of-self.ensures
    c.take_piece-taken.ensures.ok c.take_piece-taken.ensures.form c.take_piece-taken.ensures.bad took
