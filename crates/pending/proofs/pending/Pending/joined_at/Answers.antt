use Rattle.std.proofs.Common.{ap, sym, subst, [], Some, None}
use Rattle.message.specs.Cuts.{LieIn}
use Rattle.message.proofs.SideBySide.{lie_first, joined_tails}
use Rattle.pending.proofs.pending.Pending.joined_at.Goals as goal

pub merged-requires-clause-before : goal.merged-requires-clause-before
merged-requires-clause-before g c =
    let hi = Some c.args.pivot.now in
    lie_first [] hi c.self.inside.sorted c.self.inside.tail_msgs.0 (subst (λ ms. LieIn [] hi ms) (sym (ap (λ (t : _). t.0) c.self.view_is)) c.requires.before)

pub merged-requires-clause-from : goal.merged-requires-clause-from
merged-requires-clause-from g c =
    let p = c.args.pivot.now in
    lie_first p None c.newer.inside.sorted c.newer.inside.tail_msgs.0 (subst (λ ms. LieIn p None ms) (sym (ap (λ (t : _). t.0) c.newer.view_is)) c.requires.from)

pub returns : goal.returns
returns g c = joined_tails c.args.pivot.now c.self.inside.sorted c.self.inside.tail_msgs.0 c.newer.inside.sorted c.newer.inside.tail_msgs.0 c.in_ok-sorted.sorted c.join.new.self.0 c.args.self.0 c.args.newer.0 (ap (λ (t : _). t.0) c.self.view_is) (ap (λ (t : _). t.0) c.newer.view_is) c.requires.before c.requires.from c.in_ok-sorted.ensures c.in_ok-join.ensures.ok
