use Rattle.std.proofs.Common.{ap, [], Some, None}
use Rattle.message.proofs.Cutting.{both_parts}
use Rattle.pending.proofs.pending.Pending.split_at.Goals as goal

pub returns-clause-front : goal.returns-clause-front
returns-clause-front g c = both_parts [] (Some c.args.pivot.now) c.self.inside.sorted c.self.inside.tail_msgs.0 c.in_ok-front.front c.in_ok-before.before.0 c.args.self.0 c.in_ok-front.ensures.front c.in_ok-before.ensures.front (ap (λ (t : _). t.0) c.self.view_is)

pub returns-clause-back : goal.returns-clause-back
returns-clause-back g c = both_parts c.args.pivot.now None c.self.inside.sorted c.self.inside.tail_msgs.0 c.in_ok-front.back c.in_ok-before.behind.0 c.args.self.0 c.in_ok-front.ensures.back c.in_ok-before.ensures.back (ap (λ (t : _). t.0) c.self.view_is)
