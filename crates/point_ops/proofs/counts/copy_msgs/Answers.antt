use Rattle.point_ops.proofs.Counting.{copied, runs_next, some_left}
use Rattle.point_ops.proofs.counts.copy_msgs.Goals as goal

pub loop-key-preserved : goal.loop-key-preserved
loop-key-preserved g c =
    let k = c.in-Some.key.now in
    let cs = c.in-Some.run'.now in
    let walk = c.next.new.self in
    let runs = runs_next k cs walk c.loop-key.walk c.in-Some.ensures.passed c.loop-key.invariant.runs in
    record {
      same = copied c.args.count c.loop-key.consumed k cs walk c.loop-key.walk c.loop-key.front.items c.copy_into.new.front.items _ c.in-Some.ensures.passed c.loop-key.invariant.same c.in_ok-copy_into.ensures;
      runs = runs;
      fits = some_left walk runs;
    }
