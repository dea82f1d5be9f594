use Rattle.std.proofs.Common.{◌≡◌, map, take}
use Rattle.pathkey.specs.Texts.{null_for_slash}
use Rattle.pathkey.proofs.key.Key.of_text.Given as goal

abbrev pub invariant-loop-byte : goal.invariant-loop-byte
invariant-loop-byte l = l.bytes.items ≡ map null_for_slash (take l.byte-index l.text)
