-- Results of functions that may fail to allocate.
use Rattle.std.specs.Prelude.{◌≡◌, ◌⊎◌, List, [], ◌∷◌, Bool, cond, Option, Some, None, Result, Ok, Err, IsOk}
use Rattle.pathkey.specs.declared.errno.Errno.{Errno}
use Rattle.pathkey.specs.declared.errno.Errno.TheVariants.{ENOMEM}

-- the result is the one wanted; or an allocation failed, if the one wanted is a success
abbrev pub IsOrLacksMemory : {A : Type 0} → Result A Errno → Result A Errno → Type 0
IsOrLacksMemory {A} answer wanted = (answer ≡ wanted) ⊎ ((answer ≡ Err ENOMEM) × IsOk wanted)

-- an error, if the test holds
abbrev pub when : Bool → Errno → Option Errno
when b e = cond b (Some e) None

-- the first error of the list, or else the success
abbrev pub unless : {A : Type 0} → List (Option Errno) → A → Result A Errno
unless [] x = Ok x
unless (None ∷ faults) x = unless faults x
unless (Some e ∷ faults) x = Err e
