use Rattle.std.proofs.Common.{◌≤◌, ◌++◌, []}
use Rattle.message.specs.Effects.{Takes}
use Rattle.pending.proofs.pending.condense.Given as goal

abbrev pub invariant-loop-more : goal.invariant-loop-more
invariant-loop-more g l = record {
  same : Takes g.U.Update.means (l.initial.sorted ++ l.initial.tail_msgs.0) [] (l.sorted ++ l.tail_msgs.0);
  room : l.initial.tail_msgs.1 ≤ l.tail_msgs.1;
}

abbrev pub decreases-loop-more : goal.decreases-loop-more
decreases-loop-more g l = l.more
