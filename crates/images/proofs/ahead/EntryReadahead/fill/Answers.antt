use Rattle.std.proofs.Common.{drop, ap, ◌∙◌, arith}
use Rattle.std.proofs.lemmas.Bool.{ltb-true}
use Rattle.images.proofs.Spots.{ahead_piece}
use Rattle.images.proofs.ahead.EntryReadahead.fill.Goals as goal

pub returns-clause-ahead : goal.returns-clause-ahead
returns-clause-ahead c = λ t m mean there ahead.
    ahead_piece t c.args.last.now m 256 c.in_ok-piece.piece.items _ mean.indexes.tree there (omega arith) (c.in_ok-piece.ensures t mean)
    (c.pop_front.ensures.rest ∙ ap (drop 1) c.from_vec.ensures.items)
    (λ yes. let few = ltb-true c.len.result 256 yes in omega (arith, few, c.len.ensures, c.in_ok-piece.piece.ok))
