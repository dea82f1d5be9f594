use Rattle.std.proofs.Common.{arith, take}
use Rattle.point_ops.specs.PointOps.{point_msgs}
use Rattle.node.specs.See.{seen_slots}
use Rattle.node.specs.Site.{slots_from}
use Rattle.flush.proofs.Moves.{moved-none, moved-then, rising-taken}
use Rattle.flush.proofs.Sharing.{begins_walk, holder_begins}
use Rattle.flush.proofs.inner.share_along.Goals as goal

pub returns-in_default-clause-moved : goal.returns-in_default-clause-moved
returns-in_default-clause-moved g c = moved-none g.U.Update.means (point_msgs c.args.walk) (seen_slots c.args.below.now)

pub returns-in_default-holder-clause-moved : goal.returns-in_default-holder-clause-moved
returns-in_default-holder-clause-moved g c = moved-none g.U.Update.means (point_msgs c.args.walk) (seen_slots c.args.below.now)

pub loop-count-init : goal.loop-count-init
loop-count-init g c =
    let ss = seen_slots c.args.below.now in
    let i = c.in-Some-holder.i in
    let k = c.in-Some.first.now in
    record {
      within = omega arith;
      moved = moved-none g.U.Update.means (point_msgs c.args.walk) ss;
      begins = begins_walk c.args.walk (slots_from i ss) k c.in-Some.ensures.key (holder_begins ss k i c.in-Some-holder.ensures.number);
    }

pub share_next-requires-clause-rising : goal.share_next-requires-clause-rising
share_next-requires-clause-rising g c = rising-taken g.U.Update.means (take c.loop-count.count (point_msgs c.args.walk)) (seen_slots c.args.below.now) (seen_slots c.loop-count.below) c.loop-count.invariant.moved.taken c.requires

pub loop-count-preserved : goal.loop-count-preserved
loop-count-preserved g c =
    let sent = c.in-Some-share_next.ensures in
    record {
      within = omega (arith, c.loop-count-test.true, sent.within.1);
      moved = moved-then g.U.Update.means c.loop-count.count c.in-Some-share_next.more (point_msgs c.args.walk) (point_msgs c.loop-count.rest) (point_msgs c.share_next.new.walk) (seen_slots c.args.below.now) (seen_slots c.loop-count.below) (seen_slots c.share_next.new.below) c.loop-count.invariant.moved sent.moved;
      begins = sent.begins;
    }
