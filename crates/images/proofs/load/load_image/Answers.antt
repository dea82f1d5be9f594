use Rattle.images.proofs.TakenFacts.{first_part, second_part}
use Rattle.images.proofs.load.load_image.Goals as goal

pub returns-in-Ok-clause-loaded : goal.returns-in-Ok-clause-loaded
returns-in-Ok-clause-loaded g c = first_part _ _ c.load_pieces.result (c.load_pieces.ensures.loaded c.args.shape c.in-Ok.ensures.fresh)

pub returns-in-Ok-clause-form : goal.returns-in-Ok-clause-form
returns-in-Ok-clause-form g c = second_part _ _ c.load_pieces.result (c.load_pieces.ensures.loaded c.args.shape c.in-Ok.ensures.fresh)

pub returns-in-Ok-clause-bad : goal.returns-in-Ok-clause-bad
returns-in-Ok-clause-bad g c = λ n e. c.load_pieces.ensures.bad c.args.shape n c.in-Ok.ensures.fresh e
