use Rattle.std.proofs.Common.{ap, subst, None}
use Rattle.message.specs.Cuts.{LieIn}
use Rattle.message.proofs.SideBySide.{lie_both}
use Rattle.pending.proofs.pending.Pending.lies_from.Goals as goal

pub returns-then-lies_from : goal.returns-then-lies_from
returns-then-lies_from g c h =
    let p = c.args.pivot.now in
    subst (λ ms. LieIn p None ms) (ap (λ (t : _). t.0) c.self.view_is) (lie_both p None c.self.inside.sorted c.self.inside.tail_msgs.0 (c.lies_from.ensures c.if-lies_from.true) (c.lies_from-then-lies_from.ensures h))
