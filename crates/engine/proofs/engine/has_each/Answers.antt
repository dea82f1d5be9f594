use Rattle.std.proofs.Common.{arith}
use Rattle.engine.proofs.Totals.{has-more}
use Rattle.engine.proofs.engine.has_each.Goals as goal

pub returns-then-not-has_number-clause-lacks : goal.returns-then-not-has_number-clause-lacks
returns-then-not-has_number-clause-lacks g c = λ e. (c.loop-number.number, omega arith, c.has_number.ensures.lacks c.if-not-has_number.true)

pub loop-number-preserved : goal.loop-number-preserved
loop-number-preserved g c = has-more c.loop-number.number c.args.clients.now c.loop-number.invariant (c.has_number.ensures.has c.if-not-has_number.false)
