use Rattle.std.proofs.Common.{◌≡◌, ◌+◌, ◌≤◌, drop}
use Rattle.message.specs.Effects.{range_count}
use Rattle.pending.proofs.list.ranges_in.Given as goal

abbrev pub invariant-loop-waiting : goal.invariant-loop-waiting
invariant-loop-waiting g l = record {
  below : l.count ≤ l.waiting-index;
  rest : l.count + range_count (drop l.waiting-index l.msgs) ≡ range_count l.msgs;
}
