use Rattle.std.proofs.Common.{refl}
use Rattle.images.proofs.Spots.{next_is}
use Rattle.images.proofs.ahead.EntryReadahead.next.Goals as goal

pub returns : goal.returns
returns c = λ t m mean there ahead.
    next_is t c.args.last.now c.fill.new.self _ c.pop_front.result mean.indexes.tree (c.in_ok-fill.ensures.ahead t m mean there ahead) c.in_ok-fill.ensures.some c.pop_front.ensures.items c.pop_front.ensures.rest refl
