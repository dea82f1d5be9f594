use Rattle.std.proofs.Common.{◌≡◌, List, length}
use Rattle.delta.specs.Deltas.{Line}
use Rattle.delta.specs.Walks.{Walks}
use Rattle.delta.proofs.print.pass_going.Given as goal

abbrev pub invariant-loop-count : goal.invariant-loop-count
invariant-loop-count l = (gone : List Line) × (length gone ≡ l.count) × Walks gone l.fn.old l.old
