use Rattle.std.proofs.Common.{◌≡◌, [], ◌++◌, Some, None, length}
use Rattle.message.specs.Cuts.{pieces}
use Rattle.pending.proofs.tail.Tail.split_at.Given as goal

abbrev pub invariant-loop-waiting : goal.invariant-loop-waiting
invariant-loop-waiting g l = record {
  front : l.front.items ++ pieces [] (Some l.pivot.value) l.rest.0 ≡ pieces [] (Some l.pivot.value) l.fn.self.0;
  back : l.back.items ++ pieces l.pivot.value None l.rest.0 ≡ pieces l.pivot.value None l.fn.self.0;
}

abbrev pub decreases-loop-waiting : goal.decreases-loop-waiting
decreases-loop-waiting g l = length l.rest.0
