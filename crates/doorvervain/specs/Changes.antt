-- The effect on the volume of the exports that change it.
use Rattle.std.specs.Prelude.{◌⊎◌, ℕ, List}
use Rattle.pathkey.specs.declared.errno.Errno.TheVariants.{ENOMEM}
use Rattle.pathkey.specs.Texts.{parsed}
use Rattle.pathkey.specs.Names.{Path}
use Rattle.reference.specs.declared.call.Call.{Call}
use Rattle.volume.specs.Volumes.{PVolume}
use Rattle.ffi_calls.specs.Changes.{Asks, Refuses, asked, moved}
use Rattle.doorvervain.specs.Numbers.{reported}

-- the call on the path in a text, at a timestamp, was requested of the volume, and the number is its outcome
abbrev pub AsksAt : (Path → Call) → List ℕ → ℕ → ℕ → PVolume → PVolume → Type 0
AsksAt call text at number old new = Asks (asked call (parsed text)) at (reported number) old new

-- the same for a rename between two paths; ENOMEM may be reported before the error of the second text
abbrev pub Moves : List ℕ → List ℕ → ℕ → ℕ → PVolume → PVolume → Type 0
Moves from to at number old new = Asks (moved (parsed from) (parsed to)) at (reported number) old new ⊎ Refuses ENOMEM (reported number) old new
