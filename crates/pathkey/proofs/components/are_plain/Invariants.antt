use Rattle.std.proofs.Common.{◌≡◌, drop, true}
use Rattle.pathkey.proofs.PlainFacts.{plain_from}
use Rattle.pathkey.proofs.components.are_plain.Given as goal

abbrev pub invariant-loop-byte : goal.invariant-loop-byte
invariant-loop-byte l = plain_from true l.names ≡ plain_from l.begins (drop l.byte-index l.names)
