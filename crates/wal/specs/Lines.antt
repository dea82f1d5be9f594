-- The lines of a script that represent changes, as they are printed.
use Rattle.std.specs.Prelude.{ℕ, [], ◌∷◌, ◌++◌, length, codes, decimal}
use Rattle.pathkey.specs.Names.{Path}
use Rattle.reference.specs.Image.{Text, path_text}
use Rattle.textio.specs.Texts.{hex_text}
use Rattle.wal.specs.declared.wal_entry.WalEntry.{WalEntry}
use Rattle.wal.specs.declared.wal_entry.WalEntry.TheVariants.{OnPath, Rename, Truncate, Write, Punch, SetMtime, CopyRange, Keep, Edits}
use Rattle.wal.specs.declared.wal_entry.SnapshotCall.{SnapshotCall}
use Rattle.wal.specs.declared.wal_entry.SnapshotCall.TheVariants.{Snapshot, Remove, Restore}
use Rattle.reference.specs.declared.path_call.PathCall.{PathCall}
use Rattle.reference.specs.declared.path_call.PathCall.TheVariants.{Mkdir, Create, Unlink, Rmdir, Rmtree}

-- a line: the timestamp of the changes that follow, or a change without its timestamp
pub data DumpLine : Type 0 where
  At : ℕ → DumpLine
  Makes : WalEntry → DumpLine

-- the first word of the line of a change
abbrev pub call_word : PathCall → Text
call_word Mkdir = codes "mkdir"
call_word Create = codes "create"
call_word Unlink = codes "unlink"
call_word Rmdir = codes "rmdir"
call_word Rmtree = codes "rmtree"

abbrev pub keeping_word : SnapshotCall → Text
keeping_word Snapshot = codes "snapshot"
keeping_word Remove = codes "drop"
keeping_word Restore = codes "restore"

-- the text of a path in percent form
abbrev pub path_word : Path → Text
path_word [] = 47 ∷ []
path_word (n ∷ p) = path_text (n ∷ p)

-- a line without its line feed
abbrev pub spelled : DumpLine → Text
spelled (At n) = codes "at " ++ decimal n
spelled (Makes (OnPath what p at)) = call_word what ++ 32 ∷ path_word p
spelled (Makes (Rename o n at)) = codes "rename " ++ (path_word o ++ 32 ∷ path_word n)
spelled (Makes (Truncate p len at)) = codes "truncate " ++ (path_word p ++ 32 ∷ decimal len)
spelled (Makes (Write p off w at)) = codes "write " ++ (path_word p ++ 32 ∷ (decimal off ++ 32 ∷ hex_text w))
spelled (Makes (Punch p off n at)) = codes "# punch " ++ (path_word p ++ 32 ∷ (decimal off ++ 32 ∷ decimal n))
spelled (Makes (SetMtime p at)) = codes "# mtime " ++ (path_word p ++ 32 ∷ decimal at)
spelled (Makes (CopyRange p off q to n at)) = codes "# copy " ++ (path_word p ++ 32 ∷ (decimal off ++ 32 ∷ (path_word q ++ 32 ∷ (decimal to ++ 32 ∷ decimal n))))
spelled (Makes (Keep what s)) = keeping_word what ++ 32 ∷ s
spelled (Makes (Edits w)) = codes "# edits " ++ decimal (length w)

abbrev pub line : DumpLine → Text
line t = spelled t ++ 10 ∷ []
