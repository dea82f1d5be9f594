-- Changes, given as texts, as bytes in a buffer.
use Rattle.std.specs.Prelude.{◌≡◌, ◌⊎◌, ℕ, List, ◌++◌, length, drop, nat_le, if◌then◌else◌, Result, Ok, Err}
use Rattle.pathkey.specs.Names.{Path}
use Rattle.pathkey.specs.Texts.{text_of}
use Rattle.pathkey.specs.declared.errno.Errno.{Errno}
use Rattle.pathkey.specs.declared.errno.Errno.TheVariants.{ENOMEM}
use Rattle.wal.specs.Entries.{printed}
use Rattle.wal.specs.declared.wal_entry.WalEntry.{WalEntry}
use Rattle.wal.specs.declared.wal_entry.WalEntry.TheVariants.{CopyRange, Rename}

-- the buffer with the bytes at its front if they fit, and otherwise unchanged
abbrev pub encoded : List ℕ → List ℕ → List ℕ
encoded bytes out = if nat_le (length bytes) (length out) then bytes ++ drop (length bytes) out else out

-- the change with the parsed value, or the error of parsing
abbrev pub asked : {A : Type 0} → (A → WalEntry) → Result A Errno → Result WalEntry Errno
asked change (Ok a) = Ok (change a)
asked change (Err e) = Err e

-- the rename between the two paths that were parsed, or the error of the first that is not a path
abbrev pub moved : ℕ → Result Path Errno → Result Path Errno → Result WalEntry Errno
moved at (Ok o) n = asked (λ p. Rename o p at) n
moved at (Err e) n = Err e

-- the copy between two paths that were read, or why there is none, in the same order
abbrev pub copied : ℕ → ℕ → ℕ → ℕ → Result Path Errno → Result Path Errno → Result WalEntry Errno
copied off to n at (Ok p) q = asked (λ x. CopyRange p off x to n at) q
copied off to n at (Err e) q = Err e

-- the buffer has the bytes if they fit, and the result is their length; or it failed, and nothing changed
abbrev pub EncodesBytes : {E : Type 0} → List ℕ → Result ℕ E → List ℕ → List ℕ → Type 0
EncodesBytes bytes (Ok n) old new = (n ≡ length bytes) × (new ≡ encoded bytes old)
EncodesBytes bytes (Err e) old new = new ≡ old

-- the buffer has the encoding of the change if it fits; or the result is the error of the texts, or ENOMEM
abbrev pub Encodes : Result WalEntry Errno → Result ℕ Errno → List ℕ → List ℕ → Type 0
Encodes wanted (Ok n) old new = (c : WalEntry) × (wanted ≡ Ok c) × (n ≡ length (printed c)) × (new ≡ encoded (printed c) old)
Encodes wanted (Err e) old new = ((wanted ≡ Err e) ⊎ (e ≡ ENOMEM)) × (new ≡ old)

-- the text is that of a path; or the result is its error, or ENOMEM
abbrev pub Checks : List ℕ → Result Path Errno → Result (Unit {0}) Errno → Type 0
Checks text parsed (Ok u) = (p : Path) × (parsed ≡ Ok p) × (text_of p ≡ text)
Checks text parsed (Err e) = (parsed ≡ Err e) ⊎ (e ≡ ENOMEM)
