use Rattle.std.proofs.Common.{◌≡◌, take}
use Rattle.wal.specs.Runs.{Reaches}
use Rattle.wal.proofs.run.replay_entries.Given as goal

abbrev pub invariant-loop-change : goal.invariant-loop-change
invariant-loop-change l = record { count : l.done ≡ l.change-index; reached : Reaches (take l.change-index l.changes) l.fn.volume l.volume }
