-- What the exports that only read report.
use Rattle.std.specs.Prelude.{ℕ, List, length, Result}
use Rattle.volume.specs.declared.fs_root.FsRoot.{FsRoot}
use Rattle.pathkey.specs.declared.errno.Errno.{Errno}
use Rattle.pathkey.specs.Texts.{parsed}
use Rattle.reference.specs.declared.call.Call.TheVariants.{Read, Stat}
use Rattle.reference.specs.declared.reply.Meta.{Meta}
use Rattle.volume.specs.HistoryOf.{Tells}
use Rattle.ffi_calls.specs.Reads.{Lists, OnPath, read_reply, stat_reply}

-- a read of the file at the path that a text spells, from an offset on, into a buffer, was so answered
abbrev pub ReadsAt : List ℕ → ℕ → FsRoot → Result ℕ Errno → List ℕ → List ℕ → Type 0
ReadsAt text offset i outcome old new = OnPath (parsed text) outcome (λ p. Tells (Read p offset (length old)) (read_reply outcome new) i)

-- these numbers report the entry at the path in a text
abbrev pub StatsAt : List ℕ → FsRoot → Result Meta Errno → Type 0
StatsAt text i outcome = OnPath (parsed text) outcome (λ p. Tells (Stat p) (stat_reply outcome) i)

-- this number and size report a listing of the directory at the path in a text, and the buffer has it if it fits
abbrev pub ListsAt : List ℕ → FsRoot → Result ℕ Errno → List ℕ → List ℕ → Type 0
ListsAt text i outcome old new = OnPath (parsed text) outcome (λ p. Lists p i outcome old new)
