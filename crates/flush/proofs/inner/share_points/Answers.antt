use Rattle.node.specs.See.{seen_slots}
use Rattle.flush.proofs.Moves.{moved-none}
use Rattle.flush.proofs.inner.share_points.Goals as goal

pub returns-in_default-clause-moved : goal.returns-in_default-clause-moved
returns-in_default-clause-moved g c = moved-none g.U.Update.means c.args.list.now.0 (seen_slots c.args.below.now)
