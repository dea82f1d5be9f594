use Rattle.std.proofs.Common.{◌≡◌, ◌+◌, List, length}
use Rattle.delta.specs.Deltas.{Command}
use Rattle.delta.specs.Texts.{Passes}
use Rattle.delta.proofs.reading.pass_commands.Given as goal

abbrev pub invariant-lines : goal.invariant-lines
invariant-lines l = (cs : List Command) × Passes cs l.fn.text l.rest × (l.number ≡ length cs + 2)

abbrev pub decreases-lines : goal.decreases-lines
decreases-lines l = length l.rest
