use Rattle.std.proofs.Common.{◌≡◌, ◌≤◌, ◌+◌, ◌++◌, length, vec_capacity}
use Rattle.flush.proofs.apply_pass.finish.Given as goal

abbrev pub invariant-loop-entry : goal.invariant-loop-entry
invariant-loop-entry g l = record {
  all : l.done.items ++ l.left.items ≡ l.initial.done.items ++ l.initial.left.items;
  room : length l.done.items + length l.left.items ≤ vec_capacity l.done;
}

abbrev pub decreases-loop-entry : goal.decreases-loop-entry
decreases-loop-entry g l = length l.left.items
