use Rattle.std.proofs.Common.{◌≢◌, ◌≤◌, length, drop}
use Rattle.std.specs.List.{All}
use Rattle.pathkey.proofs.components.after_last.Given as goal

abbrev pub invariant-loop-start : goal.invariant-loop-start
invariant-loop-start l = record { within : l.start ≤ length l.bytes; lacks : All (λ b. b ≢ l.separator) (drop l.start l.bytes) }

abbrev pub decreases-loop-start : goal.decreases-loop-start
decreases-loop-start l = l.start
