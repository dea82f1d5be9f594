use Rattle.std.proofs.Common.{length}
use Rattle.edits.specs.Applying.{HasDone}
use Rattle.edits.proofs.apply.apply_lines.Given as goal

abbrev pub invariant-lines : goal.invariant-lines
invariant-lines l = HasDone l.fn.text l.rest l.number l.initial.volume l.volume

abbrev pub decreases-lines : goal.decreases-lines
decreases-lines l = length l.rest
