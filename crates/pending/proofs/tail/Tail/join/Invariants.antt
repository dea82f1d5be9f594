use Rattle.std.proofs.Common.{◌≡◌, ◌≤◌, ◌++◌, length}
use Rattle.pending.proofs.tail.Tail.join.Given as goal

abbrev pub invariant-loop-waiting : goal.invariant-loop-waiting
invariant-loop-waiting g l = record {
  room : length l.newer.0 ≤ l.self.1;
  messages : l.self.0 ++ l.newer.0 ≡ l.initial.self.0 ++ l.initial.newer.0;
}

abbrev pub decreases-loop-waiting : goal.decreases-loop-waiting
decreases-loop-waiting g l = length l.newer.0
