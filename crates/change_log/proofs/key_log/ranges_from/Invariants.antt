use Rattle.std.proofs.Common.{◌≡◌, ◌++◌, drop}
use Rattle.change_log.proofs.key_log.ranges_from.Given as goal

abbrev pub invariant-loop-index : goal.invariant-loop-index
invariant-loop-index l = l.ranges.items ++ drop l.index l.all ≡ drop l.first l.all
