-- What the number that an export returns means.
use Rattle.std.specs.Prelude.{◌≡◌, ◌≤◌, ◌<◌, ◌==◌, ℕ, zero, suc, List, [], ◌∷◌, length, slice_index_or, if◌then◌else◌, Result, Ok, Err}
use Rattle.pathkey.specs.declared.errno.Errno.{Errno}
use Rattle.pathkey.specs.declared.errno.Errno.TheVariants.{ENOENT, ENOTDIR, EISDIR, EEXIST, ENOTEMPTY, EPERM, EINVAL, ENAMETOOLONG, EFBIG, EBUSY, ENOMEM, ENOSPC}
use Rattle.reference.specs.declared.reply.Meta.{Meta}
use Rattle.reference.specs.declared.reply.Meta.TheVariants.{Dir, File}

-- the errors, in the order of their numbers, which begin with 1
abbrev pub refusals : List Errno
refusals = ENOENT ∷ ENOTDIR ∷ EISDIR ∷ EEXIST ∷ ENOTEMPTY ∷ EPERM ∷ EINVAL ∷ ENAMETOOLONG ∷ EFBIG ∷ EBUSY ∷ ENOMEM ∷ ENOSPC ∷ []

-- the number is 0 or that of an error
abbrev pub IsNumber : ℕ → Type 0
IsNumber n = n ≤ 12

-- 0 stands for success with the value x; another number for its error
abbrev pub reported_by : {A : Type 0} → ℕ → A → Result A Errno
reported_by zero x = Ok x
reported_by (suc n) x = Err (slice_index_or refusals n ENOSPC)

-- the same, of a call that gives nothing
abbrev pub reported : ℕ → Result (Unit {0}) Errno
reported n = reported_by n tt

-- ---- sizes of texts that are written only if they fit into the buffer

-- the number for a buffer that is too small
abbrev pub short : ℕ
short = 13

-- 0 and the number of a short buffer stand for a text of so many bytes; another number for its error
abbrev pub sized_by : ℕ → ℕ → Result ℕ Errno
sized_by n size = if n == short then Ok size else reported_by n size

-- the number is 0, that of an error, or that of a short buffer
abbrev pub IsSizeNumber : ℕ → Type 0
IsSizeNumber n = n ≤ short

-- the buffer is not empty, but has fewer than so many bytes: an empty one only requests the size
abbrev pub IsShort : ℕ → List ℕ → Type 0
IsShort size out = (0 < length out) × (length out < size)

-- ---- the entry at a path

-- the metadata for a kind, a length and an mtime: kind 2 is a file, any other a directory
abbrev pub meta_reported : ℕ → ℕ → ℕ → Meta
meta_reported (suc (suc _)) len at = File len at
meta_reported _ len at = Dir at

-- the same, with the number of the call
abbrev pub stat_reported : ℕ → ℕ → ℕ → ℕ → Result Meta Errno
stat_reported n kind len at = reported_by n (meta_reported kind len at)

-- the kind, the length and the mtime that are stored: kind 1 and length 0 for a directory, kind 2 for a file, and all 0 on an error
abbrev pub Gives : Result Meta Errno → ℕ → ℕ → ℕ → Type 0
Gives (Ok (Dir at)) kind len moment = (kind ≡ 1) × (len ≡ 0) × (moment ≡ at)
Gives (Ok (File n at)) kind len moment = (kind ≡ 2) × (len ≡ n) × (moment ≡ at)
Gives (Err e) kind len moment = (kind ≡ 0) × (len ≡ 0) × (moment ≡ 0)
