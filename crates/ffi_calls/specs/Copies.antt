-- Copies between the files of two texts.
use Rattle.std.specs.Prelude.{◌⊎◌, ℕ, Result, Ok, Err}
use Rattle.pathkey.specs.Names.{Path}
use Rattle.pathkey.specs.declared.errno.Errno.{Errno}
use Rattle.pathkey.specs.declared.errno.Errno.TheVariants.{ENOMEM}
use Rattle.reference.specs.declared.reply.Reply.TheVariants.{Count}
use Rattle.volume.specs.Copies.{Copies}
use Rattle.volume.specs.Typed.{replied}
use Rattle.volume.specs.Volumes.{PVolume}
use Rattle.ffi_calls.specs.Changes.{Refuses}

-- if a text is no path, the call fails with the error of the first such text, and nothing changes; if only the second is none, an
-- allocation for the first may also fail. Else the bytes are copied, and the reply is the volume's
abbrev pub CopiesAt : Result Path Errno → ℕ → Result Path Errno → ℕ → ℕ → ℕ → Result ℕ Errno → PVolume → PVolume → Type 0
CopiesAt (Err e) off q target n at outcome old new = Refuses e outcome old new
CopiesAt (Ok p) off (Err e) target n at outcome old new = Refuses e outcome old new ⊎ Refuses ENOMEM outcome old new
CopiesAt (Ok p) off (Ok q) target n at outcome old new = Copies p off q target n at (replied (λ k. Count k) outcome) old new
