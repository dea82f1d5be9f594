use Rattle.std.proofs.Common.{◌≡◌, ◌≤◌, drop}
use Rattle.pending.proofs.tail.Tail.drop_oldest.Given as goal

abbrev pub invariant-loop : goal.invariant-loop
invariant-loop g l = record {
  left : l.self.0 ≡ drop l.counter l.fn.self.0;
  room : l.fn.self.1 ≤ l.self.1;
}
