use Rattle.std.proofs.Common.{◌≡◌, ◌++◌}
use Rattle.reference.specs.Image.{block_lines}
use Rattle.reference.proofs.plain.image.put_blocks.Given as goal

-- what is written so far
abbrev pub invariant-loop-index : goal.invariant-loop-index
invariant-loop-index l = l.out.items ≡ l.initial.out.items ++ block_lines l.bytes l.index
