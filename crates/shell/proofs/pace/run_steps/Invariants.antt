use Rattle.reference.specs.Worlds.{World}
use Rattle.volume.specs.Volumes.{Means}
use Rattle.shell.proofs.pace.run_steps.Given as goal

abbrev pub invariant-loop : goal.invariant-loop
invariant-loop g l = record { kept : (w : World) → Means l.initial.volume w → Means l.volume w }
