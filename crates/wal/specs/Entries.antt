-- The changes of a request as bytes.
use Rattle.std.specs.Prelude.{◌≡◌, ◌≢◌, ◌⊎◌, ◌<◌, ◌^◌, ◌++◌, ℕ, List, [], length, flat_map, Bool, true, ◌&&◌, ◌==◌, Result, MatchResult}
use Rattle.std.specs.List.{AllByRecursion}
use Rattle.std.specs.Int.{w64, to_le_bytes}
use Rattle.pathkey.specs.Names.{Path, IsPath}
use Rattle.pathkey.specs.SnapNames.{is_snap_name}
use Rattle.pathkey.specs.Texts.{text_of}
use Rattle.pathkey.specs.declared.errno.Errno.{Errno}
use Rattle.pathkey.specs.declared.errno.Errno.TheVariants.{EINVAL, ENOMEM}
use Rattle.wal.specs.declared.wal_entry.WalEntry.{WalEntry}
use Rattle.wal.specs.declared.wal_entry.WalEntry.TheVariants.{OnPath, Rename, Truncate, Write, Punch, SetMtime, CopyRange, Keep, Edits}
use Rattle.wal.specs.declared.wal_entry.SnapshotCall.{SnapshotCall}
use Rattle.wal.specs.declared.wal_entry.SnapshotCall.TheVariants.{Snapshot, Remove, Restore}
use Rattle.reference.specs.declared.path_call.PathCall.{PathCall}
use Rattle.reference.specs.declared.path_call.PathCall.TheVariants.{Mkdir, Create, Unlink, Rmdir, Rmtree}
use Rattle.wal.specs.declared.entry.EntryHeader.{EntryHeader}

-- a number as eight bytes in little-endian order
unfoldable pub word : ℕ → List ℕ
word n = to_le_bytes w64 n

-- the four numbers of an entry
unfoldable pub numbers : EntryHeader → List ℕ
numbers h = word h.kind ++ word h.at ++ word h.offset ++ word h.count

-- an entry up to its second text: its numbers, the lengths of its two texts, and the first text
unfoldable pub entry_front : EntryHeader → List ℕ → ℕ → List ℕ
entry_front h first len = numbers h ++ word (length first) ++ word len ++ first

-- the whole entry
unfoldable pub entry : EntryHeader → List ℕ → List ℕ → List ℕ
entry h first second = entry_front h first (length second) ++ second

-- ---- a change as an entry

abbrev pub path_kind : PathCall → ℕ
path_kind Mkdir = 1
path_kind Create = 2
path_kind Unlink = 3
path_kind Rmdir = 4
path_kind Rmtree = 5

abbrev pub keeping_kind : SnapshotCall → ℕ
keeping_kind Snapshot = 10
keeping_kind Remove = 11
keeping_kind Restore = 12

-- the numbers of a change: its kind, its timestamp, and two more
abbrev pub head_of : WalEntry → EntryHeader
head_of (OnPath what p at) = record { kind = path_kind what; at = at; offset = 0; count = 0 }
head_of (Rename o n at) = record { kind = 6; at = at; offset = 0; count = 0 }
head_of (Truncate p len at) = record { kind = 7; at = at; offset = len; count = 0 }
head_of (Write p off w at) = record { kind = 8; at = at; offset = off; count = 0 }
head_of (Punch p off n at) = record { kind = 9; at = at; offset = off; count = n }
head_of (SetMtime p at) = record { kind = 13; at = at; offset = 0; count = 0 }
head_of (CopyRange p off q to n at) = record { kind = 14; at = at; offset = off; count = n }
head_of (Keep what s) = record { kind = keeping_kind what; at = 0; offset = 0; count = 0 }
head_of (Edits w) = record { kind = 15; at = 0; offset = 0; count = 0 }

-- the first text: the change's path, the name of the snapshot, or the text of edits
abbrev pub first_of : WalEntry → List ℕ
first_of (OnPath what p at) = text_of p
first_of (Rename o n at) = text_of o
first_of (Truncate p len at) = text_of p
first_of (Write p off w at) = text_of p
first_of (Punch p off n at) = text_of p
first_of (SetMtime p at) = text_of p
first_of (CopyRange p off q to n at) = text_of p
first_of (Keep what s) = s
first_of (Edits w) = w

-- the second text: the new path of a rename, the bytes of a write, or the offset and path to which a copy goes
abbrev pub second_of : WalEntry → List ℕ
second_of (Rename o n at) = text_of n
second_of (Write p off w at) = w
second_of (CopyRange p off q to n at) = word to ++ text_of q
second_of _ = []

abbrev pub printed : WalEntry → List ℕ
printed c = entry (head_of c) (first_of c) (second_of c)

-- the body of a record: its changes, one after the other
abbrev pub body_of : List WalEntry → List ℕ
body_of cs = flat_map printed cs

-- ---- which changes there are

abbrev pub IsWord : ℕ → Type 0
IsWord n = n < 2 ^ 64

pub record IsHead (h : EntryHeader) : Type 0 where
  pub kind : IsWord h.kind
  pub at : IsWord h.at
  pub offset : IsWord h.offset
  pub count : IsWord h.count

-- the change can be encoded: its paths and names are valid, its numbers are below 2^64, and its bytes are bytes
abbrev pub IsChange : WalEntry → Type 0
IsChange (OnPath what p at) = IsPath p × IsWord at
IsChange (Rename o n at) = IsPath o × IsPath n × IsWord at
IsChange (Truncate p len at) = IsPath p × IsWord len × IsWord at
IsChange (Write p off w at) = IsPath p × IsWord off × IsWord (length w) × IsWord at
IsChange (Punch p off n at) = IsPath p × IsWord off × IsWord n × IsWord at
IsChange (SetMtime p at) = IsPath p × IsWord at
IsChange (CopyRange p off q to n at) = IsPath p × IsWord off × IsPath q × IsWord to × IsWord n × IsWord at
IsChange (Keep what s) = is_snap_name s ≡ true
IsChange (Edits w) = IsWord (length w)

-- ---- how bytes are decoded

-- the bytes do not begin with an entry
abbrev pub LacksEntry : List ℕ → Type 0
LacksEntry bytes = (h : EntryHeader) (first second rest : List ℕ) → IsWord (length first) → IsWord (length second) → bytes ≢ entry h first second ++ rest

-- why decoding fails: EINVAL for bytes that are not valid, or ENOMEM
abbrev pub Refuses : Type 0 → Errno → Type 0
Refuses IsNone e = ((e ≡ EINVAL) × IsNone) ⊎ (e ≡ ENOMEM)

abbrev pub IsNoText : List ℕ → Type 0
IsNoText text = (p : Path) → IsPath p → text_of p ≢ text

-- no offset stands at its front with the text of a path behind
abbrev pub IsNoTarget : List ℕ → Type 0
IsNoTarget text = (n : ℕ) (p : Path) → IsWord n → IsPath p → word n ++ text_of p ≢ text

abbrev pub IsNoName : List ℕ → Type 0
IsNoName text = is_snap_name text ≢ true

-- all numbers of the entry but its timestamp are 0
abbrev pub has_no_numbers : EntryHeader → Bool
has_no_numbers h = (h.offset == 0) && (h.count == 0)

-- the entry is that of the change
pub record IsEntryOf (h : EntryHeader) (first second : List ℕ) (c : WalEntry) : Type 0 where
  pub head : head_of c ≡ h
  pub first_is : first_of c ≡ first
  pub second_is : second_of c ≡ second

abbrev pub IsNoEntry : EntryHeader → List ℕ → List ℕ → Type 0
IsNoEntry h first second = (c : WalEntry) → IsChange c → IsEntryOf h first second c → ⊥

-- the change whose entry it is, or why there is none
abbrev pub ReadsEntry : EntryHeader → List ℕ → List ℕ → Result WalEntry Errno → Type 0
ReadsEntry h first second r = MatchResult r (IsEntryOf h first second) (Refuses (IsNoEntry h first second))

-- the body of no changes
abbrev pub IsNoBody : List ℕ → Type 0
IsNoBody bytes = (cs : List WalEntry) → AllByRecursion IsChange cs → bytes ≢ body_of cs

abbrev pub RefusesBody : List ℕ → Errno → Type 0
RefusesBody bytes e = Refuses (IsNoBody bytes) e
