use Rattle.std.proofs.Common.{◌≡◌, ◌≤◌, ◌+◌, ◌++◌, cond, length, vec_capacity}
use Rattle.std.specs.Ordering.{is_lt}
use Rattle.flush.specs.Merge.{HasCome}
use Rattle.flush.proofs.apply_pass.advance_to.Given as goal

abbrev pub invariant-loop-order : goal.invariant-loop-order
invariant-loop-order g l = record {
  all : l.done.items ++ l.left.items ≡ l.fn.done.items ++ l.fn.left.items;
  room : length l.done.items + length l.left.items ≤ vec_capacity l.done;
  capacity : vec_capacity l.done ≡ vec_capacity l.fn.done;
  come : HasCome l.key l.done.items l.left.items l.order;
}

abbrev pub decreases-loop-order : goal.decreases-loop-order
decreases-loop-order g l = length l.left.items + cond (is_lt l.order) 1 0
