use Rattle.std.proofs.Common.{sym, subst}
use Rattle.volume.specs.Walks.{ReadsNumbers}
use Rattle.volume.proofs.Walks.{numbers_more}
use Rattle.volume.proofs.walk.with_numbers.Goals as goal

pub loop-key-preserved : goal.loop-key-preserved
loop-key-preserved c =
    subst (ReadsNumbers _) (sym c.in_ok-push.ensures.items) (numbers_more c.loop-key.yielded c.loop-key.blocks.items c.in-Some.key c.in-Some.block c.block_number-number.result c.block_number-number.ensures c.loop-key.invariant)
