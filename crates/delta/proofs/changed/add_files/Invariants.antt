use Rattle.std.proofs.Common.{◌≡◌, ◌++◌, map, take}
use Rattle.delta.specs.Changed.{file_key}
use Rattle.delta.proofs.changed.add_files.Given as goal

abbrev pub invariant-loop-key : goal.invariant-loop-key
invariant-loop-key l = l.out.items ≡ l.initial.out.items ++ map file_key (take l.key-index l.blocks)
