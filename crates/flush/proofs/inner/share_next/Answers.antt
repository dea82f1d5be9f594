use Rattle.std.proofs.Common.{ap}
use Rattle.node.specs.Pure.{slots}
use Rattle.node.proofs.Wholes.{see-pending}
use Rattle.flush.proofs.Sharing.{shared_first}
use Rattle.flush.proofs.inner.share_next.Goals as goal

pub returns-in_default-share_first_of-clause-kept : goal.returns-in_default-share_first_of-clause-kept
returns-in_default-share_first_of-clause-kept g c = ap slots (see-pending c.args.below.now c.holder_from-at.result c.index-below-at.result c.share_first_of.new.self c.in_default-share_first_of.ensures.none)

pub returns-clause-moved : goal.returns-clause-moved
returns-clause-moved g c =
    let at = c.holder_from-at in
    let sent = c.in-Some-share_first_of.ensures in
    (shared_first g.U.Update.means c.args.walk.now c.pass.new.self c.in-Some.key.now c.args.below.now at.result c.index-below-at.result c.share_first_of.new.self c.in-Some-share_first_of.count c.args.room c.pass.ensures c.assert_rising.ensures c.in-Some.ensures.key c.requires.rising at.ensures.number at.ensures.bound sent.within.0 sent.within.1 sent.within.2 sent.takes).0

pub returns-clause-begins : goal.returns-clause-begins
returns-clause-begins g c =
    let at = c.holder_from-at in
    let sent = c.in-Some-share_first_of.ensures in
    (shared_first g.U.Update.means c.args.walk.now c.pass.new.self c.in-Some.key.now c.args.below.now at.result c.index-below-at.result c.share_first_of.new.self c.in-Some-share_first_of.count c.args.room c.pass.ensures c.assert_rising.ensures c.in-Some.ensures.key c.requires.rising at.ensures.number at.ensures.bound sent.within.0 sent.within.1 sent.within.2 sent.takes).1
