use Rattle.std.proofs.Common.{arith}
use Rattle.pathkey.proofs.HeadFacts.{read_more, read_fits}
use Rattle.pathkey.proofs.key.head_of.Goals as goal

pub overflow_mul-head : goal.overflow_mul-head
overflow_mul-head c = omega (arith, read_fits _ _ _ c.type_inv.bytes (read_more _ _ _ c.loop-index-test.true c.loop-index.invariant))

pub overflow_add-head : goal.overflow_add-head
overflow_add-head c = omega (arith, c.byte_at.ensures, read_fits _ _ _ c.type_inv.bytes (read_more _ _ _ c.loop-index-test.true c.loop-index.invariant))

pub loop-index-preserved : goal.loop-index-preserved
loop-index-preserved c = rw c.byte_at.ensures (read_more _ _ _ c.loop-index-test.true c.loop-index.invariant)
