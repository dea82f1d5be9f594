-- What is seen at the path of an edit, and whether its call was done.
use Rattle.std.specs.Prelude.{◌≡◌, Bool, true, false, Option, Result, Ok, Err, IsErr}
use Rattle.pathkey.specs.declared.errno.Errno.{Errno}
use Rattle.pathkey.specs.declared.errno.Errno.TheVariants.{ENOMEM}
use Rattle.pathkey.specs.declared.errno.NoMemory.{NoMemory}
use Rattle.reference.specs.Reads.{Sight, sight}
use Rattle.reference.specs.Tree.{Path}
use Rattle.reference.specs.Worlds.{World}
use Rattle.volume.specs.Volumes.{Means, PVolume}

-- this holds of what is seen at the path, in each world to which the volume abstracts
abbrev pub EachSight : PVolume → Path → (Option Sight → Type 0) → Type 0
EachSight v p P = (w : World) → Means v w → P (sight w.live p)

-- whether a call was done, by its answer: it was, it failed for memory, or any other error says that it was not
abbrev pub WhetherDone : {A : Type 0} → Result A Errno → Result Bool NoMemory → Type 0
WhetherDone (Ok given) told = told ≡ Ok true
WhetherDone (Err ENOMEM) told = IsErr told
WhetherDone (Err e) told = told ≡ Ok false
