use Rattle.wal.proofs.Replaying.{behind_shorter, done_after, done_first, replays_end, replays_stop}
use Rattle.wal.proofs.replays.replay.Goals as goal
use Rattle.std.proofs.Common.{◌+◌}

pub loop-body-init : goal.loop-body-init
loop-body-init c = done_first c.args.salt.now c.args.number c.args.log.now c.args.volume.now

pub returns-in-Err : goal.returns-in-Err
returns-in-Err c =
    replays_stop c.args.salt.now c.args.number c.loop-body.records c.args.log.now c.loop-body.rest.now c.in-Some.body.now c.in-Some.behind.now c.in-Err.stopped c.args.volume.now c.loop-body.volume c.replay_body.new.volume
    c.loop-body.invariant c.in-Some.ensures.0 c.in-Err.ensures

pub loop-body-smaller : goal.loop-body-smaller
loop-body-smaller c = behind_shorter c.args.salt.now (c.args.number + c.loop-body.records) c.loop-body.rest.now c.in-Some.body.now c.in-Some.behind.now c.in-Some.ensures.0

pub loop-body-preserved : goal.loop-body-preserved
loop-body-preserved c =
    done_after c.args.salt.now c.args.number c.loop-body.records c.args.log.now c.loop-body.rest.now c.in-Some.body.now c.in-Some.behind.now c.args.volume.now c.loop-body.volume c.replay_body.new.volume
    c.loop-body.invariant c.in-Some.ensures.0 c.in-Some.ensures.1 c.in_default-replay_body.ensures

pub returns : goal.returns
returns c = replays_end c.args.salt.now c.args.number c.loop-body.records c.args.log.now c.loop-body.rest.now c.args.volume.now c.loop-body.volume c.loop-body.invariant c.in_default.ensures
