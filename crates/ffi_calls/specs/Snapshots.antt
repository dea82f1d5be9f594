-- Snapshot calls whose names are given as texts.
use Rattle.std.specs.Prelude.{◌≡◌, ◌⊎◌, ℕ, List, length, Result, Ok, Err, Option, Some, None, IfOk}
use Rattle.std.specs.FinMap as finite
use Rattle.volume.specs.declared.fs_root.FsRoot.{FsRoot}
use Rattle.pathkey.specs.declared.errno.Errno.{Errno}
use Rattle.pathkey.specs.declared.errno.Errno.TheVariants.{ENOENT, ENOMEM}
use Rattle.reference.specs.Worlds.{World, Snapped, Event}
use Rattle.volume.specs.Changes.{Settles}
use Rattle.volume.specs.HistoryOf.{Finds}
use Rattle.volume.specs.Volumes.{PVolume, Means}
use Rattle.ffi_calls.specs.Changes.{Refuses}
use Rattle.ffi_calls.specs.Reads.{copied}

-- a text that is not a name fails, and nothing changes; otherwise the volume has executed the call of that name, or an
-- allocation failed before it
abbrev pub SettlesNamed : Result (List ℕ) Errno → (List ℕ → Event) → (List ℕ → PVolume → PVolume → Type 0) → Snapped → PVolume → PVolume → Type 0
SettlesNamed (Err e) event Done result old new = Refuses e result old new
SettlesNamed (Ok s) event Done result old new = Settles (event s) (Done s) result old new ⊎ Refuses ENOMEM result old new

-- the tree of the snapshot of that name, as the volume keeps it
pub record Keeps (s : List ℕ) (v : PVolume) (result : Result FsRoot Errno) : Type 0 where
  pub same : IfOk result (λ f. finite.get v.snapshots s ≡ Some f)
  pub means : (w : World) → Means v w → Finds s result w

-- a text that is not a name fails; otherwise it is the tree of that name, or an allocation failed before
abbrev pub FindsNamed : Result (List ℕ) Errno → PVolume → Result FsRoot Errno → Type 0
FindsNamed (Err e) v result = result ≡ Err e
FindsNamed (Ok s) v result = Keeps s v result ⊎ (result ≡ Err ENOMEM)

-- the length of the name, which is in the buffer if it fits; if there is no such name, ENOENT, and the buffer is unchanged
abbrev pub TellsName : Option (List ℕ) → Result ℕ Errno → List ℕ → List ℕ → Type 0
TellsName (Some name) result old new = (result ≡ Ok (length name)) × (new ≡ copied name old)
TellsName None result old new = (result ≡ Err ENOENT) × (new ≡ old)
