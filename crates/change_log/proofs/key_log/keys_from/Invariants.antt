use Rattle.std.proofs.Common.{◌≡◌, ◌++◌, drop}
use Rattle.change_log.specs.KeyLogs.{keys_of}
use Rattle.change_log.proofs.key_log.keys_from.Given as goal

abbrev pub invariant-loop-index : goal.invariant-loop-index
invariant-loop-index l = l.keys.items ++ drop l.index (keys_of 0 l.bytes l.ends) ≡ drop l.first (keys_of 0 l.bytes l.ends)
