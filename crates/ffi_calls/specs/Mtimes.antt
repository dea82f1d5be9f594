-- An mtime that is set at the path of a text.
use Rattle.std.specs.Prelude.{ℕ, Result, Ok, Err}
use Rattle.pathkey.specs.Names.{Path}
use Rattle.pathkey.specs.declared.errno.Errno.{Errno}
use Rattle.reference.specs.declared.reply.Reply.TheVariants.{Done}
use Rattle.volume.specs.Mtimes.{SetsMtime}
use Rattle.volume.specs.Typed.{replied}
use Rattle.volume.specs.Volumes.{PVolume}
use Rattle.ffi_calls.specs.Changes.{Refuses}

-- a text that is not a path fails, and nothing changes; otherwise the mtime was set at the path, and the result is the volume's
-- answer
abbrev pub SetsMtimeAt : Result Path Errno → ℕ → Result (Unit {0}) Errno → PVolume → PVolume → Type 0
SetsMtimeAt (Err e) at outcome old new = Refuses e outcome old new
SetsMtimeAt (Ok p) at outcome old new = SetsMtime p at (replied (λ _. Done) outcome) old new
