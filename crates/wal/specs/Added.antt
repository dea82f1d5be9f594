-- Lines that are appended to a text.
use Rattle.std.specs.Prelude.{◌≡◌, ◌≢◌, ◌≤◌, ℕ, List, [], ◌++◌, length, flat_map, map, true}
use Rattle.std.specs.List.{AllByRecursion}
use Rattle.pathkey.specs.Heads.{AreBytes}
use Rattle.pathkey.specs.Names.{Path, IsPath}
use Rattle.pathkey.specs.SnapNames.{is_snap_name}
use Rattle.reference.specs.Image.{Text}
use Rattle.wal.specs.Entries.{IsWord}
use Rattle.wal.specs.declared.wal_entry.WalEntry.{WalEntry}
use Rattle.wal.specs.declared.wal_entry.WalEntry.TheVariants.{OnPath, Rename, Truncate, Write, Punch, SetMtime, CopyRange, Keep, Edits}
use Rattle.wal.specs.Lines.{DumpLine, At, Makes, line}
use Rattle.wal.specs.Dump.{AreParts, HasBytes, TellAll, Tells}

-- the change fits on a line: its paths and names are valid, its numbers are below 2^64, and a write has at most 28,672
-- bytes
abbrev pub HasRoom : WalEntry → Type 0
HasRoom (OnPath what p at) = IsPath p
HasRoom (Rename o n at) = IsPath o × IsPath n
HasRoom (Truncate p len at) = IsPath p × IsWord len
HasRoom (Write p off w at) = IsPath p × IsWord off × AreBytes w × (length w ≤ 28672)
HasRoom (Punch p off n at) = IsPath p × IsWord off × IsWord n
HasRoom (SetMtime p at) = IsPath p × IsWord at
HasRoom (CopyRange p off q to n at) = IsPath p × IsWord off × IsPath q × IsWord to × IsWord n
HasRoom (Keep what s) = is_snap_name s ≡ true
HasRoom (Edits w) = IsWord (length w)

-- the same for a line with a timestamp
abbrev pub Fits : DumpLine → Type 0
Fits (At n) = IsWord n
Fits (Makes c) = HasRoom c

-- the lines one after the other
abbrev pub script : List DumpLine → Text
script ts = flat_map line ts

-- the line was appended, and it fits
pub record AddsLine (t : DumpLine) (old new : Text) : Type 0 where
  pub fits : Fits t
  pub added : new ≡ old ++ line t

-- lines of writes of consecutive parts of these bytes were appended
pub record AddsParts (p : Path) (off : ℕ) (w : List ℕ) (at : ℕ) (old new : Text) : Type 0 where
  pub writes : List WalEntry
  pub some : writes ≢ []
  pub parts : AreParts p off w at writes
  pub filled : w ≢ [] → AllByRecursion HasBytes writes
  pub fit : AllByRecursion Fits (map Makes writes)
  pub added : new ≡ old ++ script (map Makes writes)

-- lines that represent the change were appended
pub record Adds (c : WalEntry) (old new : Text) : Type 0 where
  pub lines : List DumpLine
  pub tells : Tells c lines
  pub fit : AllByRecursion Fits lines
  pub added : new ≡ old ++ script lines

-- lines that represent the changes were appended, in order
pub record AddsAll (cs : List WalEntry) (old new : Text) : Type 0 where
  pub lines : List DumpLine
  pub tells : TellAll cs lines
  pub fit : AllByRecursion Fits lines
  pub added : new ≡ old ++ script lines
