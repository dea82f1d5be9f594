use Rattle.std.proofs.Common.{◌≡◌, List, length}
use Rattle.delta.specs.Deltas.{Line}
use Rattle.delta.specs.Walks.{Walks}
use Rattle.delta.proofs.print.pass_same.Given as goal

abbrev pub invariant-loop-count : goal.invariant-loop-count
invariant-loop-count l = (kept : List Line) × (length kept ≡ l.count) × Walks kept l.fn.old l.old × Walks kept l.fn.new l.new
