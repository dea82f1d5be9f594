-- Calls, given as texts, that change a volume.
use Rattle.std.specs.Prelude.{◌≡◌, ℕ, length, Result, Ok, Err}
use Rattle.pathkey.specs.Names.{Path}
use Rattle.pathkey.specs.declared.errno.Errno.{Errno}
use Rattle.reference.specs.declared.call.Call.{Call}
use Rattle.reference.specs.declared.call.Call.TheVariants.{Write, Rename}
use Rattle.reference.specs.declared.reply.Reply.{Reply}
use Rattle.reference.specs.declared.reply.Reply.TheVariants.{Done, Count}
use Rattle.volume.specs.Changes.{Called}
use Rattle.volume.specs.Typed.{replied}
use Rattle.volume.specs.Volumes.{PVolume}

-- ---- the calls for texts

-- the call on the path that was read, or why there is none
abbrev pub asked : (Path → Call) → Result Path Errno → Result Call Errno
asked call (Ok p) = Ok (call p)
asked call (Err e) = Err e

-- the rename between two paths that were parsed, or the error of the first that is not a path
abbrev pub moved : Result Path Errno → Result Path Errno → Result Call Errno
moved (Ok o) n = asked (Rename o) n
moved (Err e) n = Err e

-- how a volume replies to a call that it has done, if that changes something: to a write by the number of all its bytes
abbrev pub done_of : Call → Reply
done_of (Write p off w) = Count (length w)
done_of _ = Done

-- ---- the effect on the volume

-- it fails with this error, and the volume is unchanged
abbrev pub Refuses : {A : Type 0} → Errno → Result A Errno → PVolume → PVolume → Type 0
Refuses e result old new = (result ≡ Err e) × (new ≡ old)

-- texts that are not a call fail, and nothing changes; otherwise the result is the volume's reply to the call at the timestamp, and
-- ENOMEM is also possible only if the volume may reply it
abbrev pub Asks : Result Call Errno → ℕ → Result (Unit {0}) Errno → PVolume → PVolume → Type 0
Asks (Err e) at result old new = Refuses e result old new
Asks (Ok c) at result old new = Called c at (replied (λ _. done_of c) result) old new
