use Rattle.reference.specs.Worlds.{World}
use Rattle.volume.specs.Volumes.{Means}
use Rattle.ffi_calls.specs.Upkeep.{Relieves}
use Rattle.ffi_calls.proofs.compaction.compact.Given as goal

abbrev pub invariant-loop-done : goal.invariant-loop-done
invariant-loop-done l = record {
  steps : Relieves l.done l.initial.volume l.volume;
  means : (w : World) → Means l.initial.volume w → Means l.volume w;
}
