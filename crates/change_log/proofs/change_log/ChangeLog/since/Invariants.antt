use Rattle.std.proofs.Common.{◌≡◌}
use Rattle.change_log.proofs.change_log.ChangeLog.since.Given as goal

abbrev pub invariant-loop-position : goal.invariant-loop-position
invariant-loop-position l = l.position-items ≡ l.self-inside.snapshots.items
