use Rattle.std.proofs.Common.{◌≡◌, ◌++◌, take}
use Rattle.std.specs.Prelude.{flat_map}
use Rattle.reference.specs.Image.{percent}
use Rattle.reference.proofs.plain.digits.put_name.Given as goal

-- what is written so far
abbrev pub invariant-loop-byte : goal.invariant-loop-byte
invariant-loop-byte l = l.out.items ≡ l.initial.out.items ++ flat_map percent (take l.byte-index l.name)
