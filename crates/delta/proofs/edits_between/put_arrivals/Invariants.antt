use Rattle.std.proofs.Common.{◌≡◌, ◌++◌, take}
use Rattle.reference.specs.Tree.{Tree}
use Rattle.volume.specs.Volumes.{MeanRooted}
use Rattle.edits.specs.Between.{arrivals}
use Rattle.edits.specs.Lines.{edits_text}
use Rattle.delta.proofs.edits_between.put_arrivals.Given as goal

abbrev pub invariant-loop-path : goal.invariant-loop-path
invariant-loop-path l = (t u : Tree) → MeanRooted l.old t → MeanRooted l.new u → l.out.items ≡ l.initial.out.items ++ edits_text (arrivals t u (take l.path-index l.paths))
