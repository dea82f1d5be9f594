use Rattle.std.proofs.Common.{◌<◌, ◌+◌, length, rules}
use Rattle.flush.proofs.Sharing.{begins_at, holder_at_end, holder_before, within_slots}
use Rattle.flush.proofs.inner.holder_from.Goals as goal

pub overflow_add-at : goal.overflow_add-at
overflow_add-at g c =
    let here : c.loop-at.at < length c.args.below.now = within_slots c.args.below.now c.loop-at.at c.args.key.now c.loop-at.invariant in
    search rules

pub loop-at-preserved : goal.loop-at-preserved
loop-at-preserved g c = begins_at c.args.below.now (c.loop-at.at + 1) c.index-below-at.result c.args.key.now c.cmp.result c.is_le.result c.loop-at-test.true c.cmp.ensures c.is_le.ensures c.if-is_le.true

pub returns-else-is_le-clause-number : goal.returns-else-is_le-clause-number
returns-else-is_le-clause-number g c = holder_before c.args.below.now c.loop-at.at c.index-below-at.result c.args.key.now c.cmp.result c.is_le.result c.requires.rising c.loop-at.invariant c.loop-at-test.true c.cmp.ensures c.is_le.ensures c.if-is_le.false

pub returns-after-loop-at-clause-bound : goal.returns-after-loop-at-clause-bound
returns-after-loop-at-clause-bound g c = within_slots c.args.below.now c.loop-at.at c.args.key.now c.loop-at.invariant

pub returns-after-loop-at-clause-number : goal.returns-after-loop-at-clause-number
returns-after-loop-at-clause-number g c = holder_at_end c.args.below.now c.loop-at.at c.args.key.now c.requires.rising c.loop-at.invariant c.loop-at-test.false
