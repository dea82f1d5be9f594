use Rattle.std.proofs.Common.{arith}
use Rattle.pending.proofs.Leaving.{left_any}
use Rattle.pending.proofs.tail.Tail.drop_oldest.Goals as goal

pub loop-preserved : goal.loop-preserved
loop-preserved g c = record {
  left = left_any c.loop.counter c.args.self.now.0 c.loop.self.0 c.take.new.self.0 c.take.result c.loop.invariant.left c.take.ensures.moved c.take.ensures.end (omega (arith, c.loop-test.true, c.requires));
  room = omega (arith, c.loop.invariant.room, c.take.ensures.room);
}
