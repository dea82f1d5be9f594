-- Holes whose paths are given as texts.
use Rattle.std.specs.Prelude.{ℕ, Result, Ok, Err}
use Rattle.pathkey.specs.Names.{Path}
use Rattle.pathkey.specs.declared.errno.Errno.{Errno}
use Rattle.reference.specs.declared.reply.Reply.TheVariants.{Count}
use Rattle.volume.specs.Holes.{Punches}
use Rattle.volume.specs.Typed.{replied}
use Rattle.volume.specs.Volumes.{PVolume}
use Rattle.ffi_calls.specs.Changes.{Refuses}

-- a text that is not a path fails, and nothing changes; otherwise the hole was made at the path, and the result is the volume's
-- answer
abbrev pub PunchesAt : Result Path Errno → ℕ → ℕ → ℕ → Result ℕ Errno → PVolume → PVolume → Type 0
PunchesAt (Err e) off n at outcome old new = Refuses e outcome old new
PunchesAt (Ok p) off n at outcome old new = Punches p off n at (replied (λ k. Count k) outcome) old new
