use Rattle.std.proofs.Common.{ap}
use Rattle.pending.proofs.Walking.{walk_then}
use Rattle.pending.proofs.pending.Pending.walk_oldest.Goals as goal

pub returns : goal.returns
returns g c = walk_then c.self.inside.sorted c.self.inside.tail_msgs.0 c.args.self.now.0 c.walk_oldest.result (ap (λ p. p.0) c.self.view_is) c.walk_oldest.ensures
