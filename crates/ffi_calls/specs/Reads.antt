-- Calls, given as texts, that only read, and what they write into a buffer.
use Rattle.std.specs.Prelude.{◌≡◌, ◌⊎◌, ℕ, ◌≤◌, List, [], ◌∷◌, ◌++◌, length, take, drop, flat_map, nat_le, if◌then◌else◌, Result, Ok, Err, MatchResult}
use Rattle.call_compiler.specs.Compiled.{MeanTree}
use Rattle.call_compiler.specs.declared.indexes.Indexes.{Indexes}
use Rattle.volume.specs.declared.fs_root.FsRoot.{FsRoot}
use Rattle.pathkey.specs.Names.{Name, Path}
use Rattle.pathkey.specs.declared.errno.Errno.{Errno}
use Rattle.pathkey.specs.declared.errno.Errno.TheVariants.{ENOMEM}
use Rattle.reference.specs.Calls.{does}
use Rattle.reference.specs.declared.call.Call.{Call}
use Rattle.reference.specs.declared.call.Call.TheVariants.{Readdir}
use Rattle.reference.specs.declared.reply.Kind.{Kind}
use Rattle.reference.specs.declared.reply.Kind.TheVariants.{Dir as Directory, File as Plain}
use Rattle.reference.specs.declared.reply.Meta.{Meta}
use Rattle.reference.specs.declared.reply.Meta.TheVariants.{Dir, File as FileMeta}
use Rattle.reference.specs.declared.reply.Reply.{Reply}
use Rattle.reference.specs.declared.reply.Reply.TheVariants.{Data, Stat, Names, Fault}
use Rattle.reference.specs.Tree.{Tree}
use Rattle.volume.specs.HistoryOf.{Tells}

-- a text that is not a path fails; otherwise this holds of the path
abbrev pub OnPath : {A : Type 0} → Result Path Errno → Result A Errno → (Path → Type 0) → Type 0
OnPath read result P = MatchResult read P (λ e. result ≡ Err e)

-- ---- bytes that were read

-- how many bytes of a buffer were written
abbrev pub filled : Result ℕ Errno → ℕ
filled (Ok n) = n
filled (Err e) = 0

-- so many bytes were written at the front of the buffer, no more than it has, and the rest is unchanged
pub record Fills (result : Result ℕ Errno) (old new : List ℕ) : Type 0 where
  pub fits : filled result ≤ length old
  pub rest : drop (filled result) new ≡ drop (filled result) old

-- the reply that the front of a buffer represents
abbrev pub read_reply : Result ℕ Errno → List ℕ → Reply
read_reply (Ok n) out = Data (take n out)
read_reply (Err e) out = Fault e

-- the reply of a call that reads is that of the table of calls for each tree of the indexes, whatever the timestamp, or ENOMEM
abbrev pub TellsIn : Call → Reply → Indexes → Type 0
TellsIn c r i = (t : Tree) (at : ℕ) → MeanTree i t → (r ≡ (does at t c).1) ⊎ (r ≡ Fault ENOMEM)

-- ---- the entry at a path

-- the reply that these metadata represent
abbrev pub stat_reply : Result Meta Errno → Reply
stat_reply (Ok (Dir at)) = Stat Directory 0 at
stat_reply (Ok (FileMeta len at)) = Stat Plain len at
stat_reply (Err e) = Fault e

-- ---- the entries of a directory

-- `d` or `f`
abbrev pub letter_of : Kind → ℕ
letter_of Directory = 100
letter_of Plain = 102

-- an entry as bytes: its letter, its name and a byte 0
abbrev pub entry_bytes : Kind × Name → List ℕ
entry_bytes e = letter_of e.0 ∷ e.1 ++ 0 ∷ []

-- all entries, in their order
abbrev pub listing_bytes : List (Kind × Name) → List ℕ
listing_bytes es = flat_map entry_bytes es

-- the buffer with the bytes at its front if they fit, and otherwise unchanged
abbrev pub copied : List ℕ → List ℕ → List ℕ
copied bytes out = if nat_le (length bytes) (length out) then bytes ++ drop (length bytes) out else out

-- a reply with these entries, and the length of their listing, which is in the buffer if it fits
pub record ListsAll (Told : Reply → Type 0) (n : ℕ) (old new : List ℕ) : Type 0 where
  pub entries : List (Kind × Name)
  pub tells : Told (Names entries)
  pub size : n ≡ length (listing_bytes entries)
  pub buffer : new ≡ copied (listing_bytes entries) old

-- the same, or it failed, and the buffer is unchanged
abbrev pub ListsIf : (Reply → Type 0) → Result ℕ Errno → List ℕ → List ℕ → Type 0
ListsIf Told (Ok n) old new = ListsAll Told n old new
ListsIf Told (Err e) old new = Told (Fault e) × (new ≡ old)

-- the listing of a directory of the tree
abbrev pub Lists : Path → FsRoot → Result ℕ Errno → List ℕ → List ℕ → Type 0
Lists p i = ListsIf (λ r. Tells (Readdir p) r i)

-- and of the tree to which the indexes abstract
abbrev pub ListsIn : Path → Indexes → Result ℕ Errno → List ℕ → List ℕ → Type 0
ListsIn p i = ListsIf (λ r. TellsIn (Readdir p) r i)
