use Rattle.std.proofs.Common.{◌≡◌, ◌++◌, take}
use Rattle.reference.specs.Tree.{Tree}
use Rattle.volume.specs.Volumes.{MeanRooted}
use Rattle.edits.specs.Between.{rewrites}
use Rattle.edits.specs.Lines.{edits_text}
use Rattle.delta.proofs.edits_between.put_rewrites.Given as goal

abbrev pub invariant-loop-block : goal.invariant-loop-block
invariant-loop-block l = (t u : Tree) → MeanRooted l.old t → MeanRooted l.new u → l.out.items ≡ l.initial.out.items ++ edits_text (rewrites t u (take l.block-index l.blocks))
