-- The specification of a replay.
use Rattle.std.specs.Prelude.{◌≡◌, ◌+◌, ℕ, List, ◌++◌, length, map, flat_map, Option, Some, None, Err}
use Rattle.wal.specs.Entries.{body_of}
use Rattle.wal.specs.Records.{AreBodies, LacksRecord, record_of, written}
use Rattle.wal.specs.declared.wal_entry.WalEntry.{WalEntry}
use Rattle.volume.specs.Volumes.{PVolume}
use Rattle.wal.specs.Runs.{Reaches, RunsBody}
use Rattle.wal.specs.declared.replays.ReplayReport.{ReplayReport}
use Rattle.wal.specs.declared.replay_error.ReplayError.{ReplayError}

-- all changes of requests, in their order
abbrev pub all_of : List (List WalEntry) → List WalEntry
all_of css = flat_map (λ cs. cs) css

-- the bodies of the requests' records
abbrev pub bodies : List (List WalEntry) → List (List ℕ)
bodies css = map body_of css

-- after the applied records, no record is valid; or the next record was not applied
abbrev pub Ends : List ℕ → ℕ → List ℕ → Option ReplayError → PVolume → PVolume → Type 0
Ends salt n rest None old new = LacksRecord salt n rest × (new ≡ old)
Ends salt n rest (Some s) old new = (body : List ℕ) × (behind : List ℕ) × (rest ≡ record_of salt n body ++ behind) × RunsBody body (Err s) old new

-- the first records of a log, which are those of these requests, were applied
pub record Replays (salt : List ℕ) (n : ℕ) (log : List ℕ) (report : ReplayReport) (old new : PVolume) : Type 0 where
  pub css : List (List WalEntry)
  pub rest : List ℕ
  pub between : PVolume
  pub is : log ≡ written salt n (bodies css) ++ rest
  pub fit : AreBodies (bodies css)
  pub records : report.records ≡ length css
  pub size : report.size ≡ length (written salt n (bodies css))
  pub reaches : Reaches (all_of css) old between
  pub ends : Ends salt (n + length css) rest report.stopped between new
