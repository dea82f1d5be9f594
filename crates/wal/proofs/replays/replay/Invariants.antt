use Rattle.std.proofs.Common.{length}
use Rattle.wal.proofs.Replaying.{Done}
use Rattle.wal.proofs.replays.replay.Given as goal

abbrev pub invariant-loop-body : goal.invariant-loop-body
invariant-loop-body l = Done l.salt l.number l.log l.records l.rest l.fn.volume l.volume

abbrev pub decreases-loop-body : goal.decreases-loop-body
decreases-loop-body l = length l.rest
