use Rattle.std.proofs.Common.{◌≡◌, ◌≤◌, ◌+◌, ◌++◌, length}
use Rattle.pending.proofs.tail.Tail.append.Given as goal

abbrev pub invariant-loop-msg : goal.invariant-loop-msg
invariant-loop-msg g l = record {
  room : length l.come ≤ l.self.1;
  left : l.initial.self.1 + length l.come ≤ l.self.1 + length l.initial.come;
  messages : l.self.0 ++ l.come ≡ l.initial.self.0 ++ l.initial.come;
}

abbrev pub decreases-loop-msg : goal.decreases-loop-msg
decreases-loop-msg g l = length l.come
