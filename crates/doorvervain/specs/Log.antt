-- What the exports of logs report.
use Rattle.std.specs.Prelude.{◌≡◌, ◌⊎◌, ◌++◌, ◌≤◌, ◌+◌, ◌^◌, ℕ, List, length, Option, Some, None, Result, Ok, Err}
use Rattle.pathkey.specs.declared.errno.Errno.{Errno}
use Rattle.pathkey.specs.declared.errno.Errno.TheVariants.{EINVAL, ENOENT}
use Rattle.wal.specs.Records.{LacksRecord, record_of}
use Rattle.wal.specs.Replays.{Replays}
use Rattle.wal.specs.declared.replay_error.ReplayError.{ReplayError}
use Rattle.volume.specs.Volumes.{PVolume}
use Rattle.doorvervain.specs.Numbers.{reported}

-- the log of a salt begins with the record with this number, whose body has so many bytes; or with none (ENOENT)
abbrev pub FindsRecord : List ℕ → ℕ → List ℕ → Result ℕ Errno → Type 0
FindsRecord salt n log (Ok size) = (body : List ℕ) × (rest : List ℕ) × (log ≡ record_of salt n body ++ rest) × (size ≡ length body)
FindsRecord salt n log (Err e) = (e ≡ ENOENT) × LacksRecord salt n log

-- where a replay stopped, from the reported error and the number of changes that were applied
abbrev pub stopped_of : Result (Unit {0}) Errno → ℕ → Option ReplayError
stopped_of (Ok u) done = None
stopped_of (Err e) done = Some (record { done = done; fault = e })

abbrev pub ended : Option ReplayError → Result (Unit {0}) ReplayError
ended None = Ok tt
ended (Some s) = Err s

-- how a run ended, by the number and by how many changes were done
abbrev pub stopped_reported : ℕ → ℕ → Result (Unit {0}) ReplayError
stopped_reported number done = ended (stopped_of (reported number) done)

-- a log was replayed; or its numbers would pass 2^64 (EINVAL), nothing was done, and nothing is counted
abbrev pub ReplaysReported : List ℕ → ℕ → List ℕ → ℕ → ℕ → ℕ → ℕ → PVolume → PVolume → Type 0
ReplaysReported salt n log number records done size old new =
    Replays salt n log (record { records = records; size = size; stopped = stopped_of (reported number) done }) old new
    ⊎ ((2 ^ 64 ≤ n + length log) × (reported number ≡ Err EINVAL) × (records ≡ 0) × (done ≡ 0) × (size ≡ 0) × (new ≡ old))
