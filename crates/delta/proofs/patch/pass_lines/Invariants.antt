use Rattle.std.proofs.Common.{◌≡◌, List, length}
use Rattle.delta.specs.Deltas.{Line}
use Rattle.delta.specs.Walks.{Walks}
use Rattle.delta.proofs.patch.pass_lines.Given as goal

abbrev pub invariant-loop : goal.invariant-loop
invariant-loop l = (gone : List Line) × (length gone ≡ l.counter) × Walks gone l.fn.walk l.walk
