use Rattle.std.proofs.Common.{◌≡◌, ◌-◌, ◌++◌, drop, length}
use Rattle.reference.specs.Tree.{Tree}
use Rattle.volume.specs.Volumes.{MeanRooted}
use Rattle.edits.specs.Between.{removals}
use Rattle.edits.specs.Lines.{edits_text}
use Rattle.delta.proofs.edits_between.put_removals.Given as goal

abbrev pub invariant-loop-number : goal.invariant-loop-number
invariant-loop-number l = (t u : Tree) → MeanRooted l.old t → MeanRooted l.new u → l.out.items ≡ l.initial.out.items ++ edits_text (removals t u (drop (length l.paths - l.number) l.paths))
