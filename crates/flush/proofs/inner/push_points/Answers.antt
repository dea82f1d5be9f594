use Rattle.flush.proofs.Moves.{all_stay}
use Rattle.flush.proofs.inner.push_points.Goals as goal

pub returns-then-room-eq0-clause-moved : goal.returns-then-room-eq0-clause-moved
returns-then-room-eq0-clause-moved g c = all_stay g.U.Update.means c.args.list.now.0 c.args.child.now.value
