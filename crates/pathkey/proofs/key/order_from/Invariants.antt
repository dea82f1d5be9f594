use Rattle.std.proofs.Common.{◌≡◌, ◌≤◌, ◌-◌}
use Rattle.pathkey.specs.Heads.{head}
use Rattle.pathkey.proofs.key.order_from.Given as goal

abbrev pub invariant-loop-same : goal.invariant-loop-same
invariant-loop-same l = record {
  whole : 8 ≤ l.same;
  equal : head l.fn.skip l.left ≡ head l.fn.skip l.right → head l.same l.left ≡ head l.same l.right;
}

abbrev pub decreases-loop-same : goal.decreases-loop-same
decreases-loop-same l = l.both - l.same
