use Rattle.std.proofs.Common.{ap, subst, [], Some}
use Rattle.message.specs.Cuts.{LieIn}
use Rattle.message.proofs.SideBySide.{lie_both}
use Rattle.pending.proofs.pending.Pending.lies_before.Goals as goal

pub returns-then-lies_before : goal.returns-then-lies_before
returns-then-lies_before g c h =
    let hi = Some c.args.pivot.now in
    subst (λ ms. LieIn [] hi ms) (ap (λ p. p.0) c.self.view_is) (lie_both [] hi c.self.inside.sorted c.self.inside.tail_msgs.0 (c.lies_before.ensures c.if-lies_before.true) (c.lies_before-then-lies_before.ensures h))
