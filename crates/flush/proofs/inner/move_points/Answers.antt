use Rattle.std.proofs.Common.{arith, take, ◌+◌}
use Rattle.node.specs.See.{seen_slots}
use Rattle.flush.proofs.Moves.{moved-none, moved-then, rising-taken}
use Rattle.flush.proofs.Sharing.{moved_still, moved-then_none}
use Rattle.flush.proofs.inner.move_points.Goals as goal

pub loop-count-init : goal.loop-count-init
loop-count-init g c = record { within = omega arith; moved = moved-none g.U.Update.means c.args.list.now.0 (seen_slots c.args.below.now) }

pub share_points-count-requires : goal.share_points-count-requires
share_points-count-requires g c = rising-taken g.U.Update.means (take c.loop-count.count c.args.list.now.0) (seen_slots c.args.below.now) (seen_slots c.loop-count.below) c.loop-count.invariant.moved.taken c.requires

pub returns-then-count-room-clause-moved : goal.returns-then-count-room-clause-moved
returns-then-count-room-clause-moved g c =
    let shared = c.share_points-count in
    moved-then g.U.Update.means c.loop-count.count shared.result c.args.list.now.0 c.loop-count.list.0 shared.new.list.0 (seen_slots c.args.below.now) (seen_slots c.loop-count.below) (seen_slots shared.new.below) c.loop-count.invariant.moved shared.ensures.moved

pub move_oldest-requires : goal.move_oldest-requires
move_oldest-requires g c =
    let means = g.U.Update.means in
    let mid = seen_slots c.loop-count.below in
    let shared = c.share_points-count in
    let rising = rising-taken means (take c.loop-count.count c.args.list.now.0) (seen_slots c.args.below.now) mid c.loop-count.invariant.moved.taken c.requires in
    rising-taken means (take shared.result c.loop-count.list.0) mid (seen_slots shared.new.below) shared.ensures.moved.taken rising

pub returns-in-Ok-eq0-clause-moved : goal.returns-in-Ok-eq0-clause-moved
returns-in-Ok-eq0-clause-moved g c =
    let means = g.U.Update.means in
    let list = c.args.list.now.0 in
    let ss = seen_slots c.args.below.now in
    let shared = c.share_points-count in
    let all = moved-then means c.loop-count.count shared.result list c.loop-count.list.0 shared.new.list.0 ss (seen_slots c.loop-count.below) (seen_slots shared.new.below) c.loop-count.invariant.moved shared.ensures.moved in
    moved-then_none means (c.loop-count.count + shared.result) c.in-Ok-eq0.field-0 list shared.new.list.0 c.move_oldest.new.list.0 ss (seen_slots shared.new.below) (seen_slots c.move_oldest.new.below) c.in-Ok-eq0.field-0-test all c.in-Ok-eq0.ensures.moved

pub returns-else-count-eq0-clause-moved : goal.returns-else-count-eq0-clause-moved
returns-else-count-eq0-clause-moved g c =
    let means = g.U.Update.means in
    let list = c.args.list.now.0 in
    let ss = seen_slots c.args.below.now in
    let shared = c.share_points-count in
    let all = moved-then means c.loop-count.count shared.result list c.loop-count.list.0 shared.new.list.0 ss (seen_slots c.loop-count.below) (seen_slots shared.new.below) c.loop-count.invariant.moved shared.ensures.moved in
    let kept = c.in-Err.ensures.kept in
    moved_still means (c.loop-count.count + shared.result) list shared.new.list.0 c.move_oldest.new.list.0 ss (seen_slots shared.new.below) (seen_slots c.move_oldest.new.below) all kept.0 kept.1

pub loop-count-preserved : goal.loop-count-preserved
loop-count-preserved g c =
    let means = g.U.Update.means in
    let list = c.args.list.now.0 in
    let ss = seen_slots c.args.below.now in
    let shared = c.share_points-count in
    let all = moved-then means c.loop-count.count shared.result list c.loop-count.list.0 shared.new.list.0 ss (seen_slots c.loop-count.below) (seen_slots shared.new.below) c.loop-count.invariant.moved shared.ensures.moved in
    record {
      within = omega (arith, c.if-count-room.false, c.in-Ok.ensures.within);
      moved = moved-then means (c.loop-count.count + shared.result) c.in-Ok.more list shared.new.list.0 c.move_oldest.new.list.0 ss (seen_slots shared.new.below) (seen_slots c.move_oldest.new.below) all c.in-Ok.ensures.moved;
    }
