use Rattle.std.proofs.Common.{arith, []}
use Rattle.message.proofs.Composing.{takes-none, takes-then}
use Rattle.pending.proofs.pending.condense.Goals as goal

pub loop-more-init : goal.loop-more-init
loop-more-init g c = record {
  same = takes-none g.U.Update.means _;
  room = omega arith;
}

pub loop-more-preserved : goal.loop-more-preserved
loop-more-preserved g c = record {
  same = takes-then g.U.Update.means _ [] _ [] _ c.loop-more.invariant.same c.condense_oldest.ensures.same;
  room = omega (arith, c.loop-more.invariant.room, c.condense_oldest.ensures.room);
}

pub returns-then-len-eq0-clause-same : goal.returns-then-len-eq0-clause-same
returns-then-len-eq0-clause-same g c = takes-none g.U.Update.means _
