use Rattle.std.proofs.Common.{◌≡◌, map, take, length}
use Rattle.pathkey.specs.Texts.{null_for_slash}
use Rattle.pathkey.proofs.path.short_key.Given as goal

abbrev pub invariant-loop-index : goal.invariant-loop-index
invariant-loop-index l = record { size : length l.bytes ≡ 255; laid : take l.index l.bytes ≡ map null_for_slash (take l.index l.names) }
