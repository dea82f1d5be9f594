-- The lines of a directory's entries.
use Rattle.std.specs.Prelude.{◌≡◌, ◌⊎◌, ℕ, List, Result, Ok, Err, flat_map, length}
use Rattle.call_compiler.specs.Compiled.{MeanTree}
use Rattle.call_compiler.specs.declared.indexes.Indexes.{Indexes}
use Rattle.pathkey.specs.Names.{Name, Path}
use Rattle.pathkey.specs.declared.errno.Errno.{Errno}
use Rattle.pathkey.specs.declared.errno.Errno.TheVariants.{ENOMEM}
use Rattle.reference.specs.Calls.{does}
use Rattle.reference.specs.Tree.{Tree}
use Rattle.reference.specs.Worlds.{World, Ask, Replied}
use Rattle.reference.specs.declared.call.Call.TheVariants.{Readdir}
use Rattle.reference.specs.declared.reply.Kind.{Kind}
use Rattle.reference.specs.declared.reply.Reply.{Reply}
use Rattle.reference.specs.declared.reply.Reply.TheVariants.{Fault, Names}
use Rattle.shell.specs.declared.entry_lines.EntryLines.{EntryLines}
use Rattle.shell.specs.Replies.{entry_line}
use Rattle.shell.specs.declared.request.ReadCall.TheVariants as look
use Rattle.shell.specs.Runs.{Worlds}
use Rattle.shell.specs.Script.{Tells}
use Rattle.shell.specs.Sessions.{Goes}

-- these are the lines of the entries
pub record AreLines (l : EntryLines) (es : List (Kind × Name)) : Type 0 where
  pub text : l.text.items ≡ flat_map entry_line es
  pub count : l.count ≡ length es

-- they are what is written of this reply, or the fault is
abbrev pub Shows : Result EntryLines Errno → Reply → Type 0
Shows (Ok l) r = (es : List (Kind × Name)) × (r ≡ Names es) × AreLines l es
Shows (Err e) r = r ≡ Fault e

-- the reply is that of the table of calls for each tree to which the indexes abstract, whatever the timestamp, or ENOMEM
abbrev pub TellsLines : Indexes → Path → Result EntryLines Errno → Type 0
TellsLines i p lines = (r : Reply) × Shows lines r × ((t : Tree) (at : ℕ) → MeanTree i t → (r ≡ (does at t (Readdir p)).1) ⊎ (r ≡ Fault ENOMEM))

-- the reply to a listing of the directory at the path, with the timestamp, fits each possible world
abbrev pub Lists : Worlds → Worlds → Path → ℕ → Result EntryLines Errno → Type 0
Lists meant means p at lines = (r : Reply) × Shows lines r × Goes meant means (Ask (Readdir p) at) (Replied r)

-- the reply to a listing of the directory at the path in the snapshot of that name is that of its tree in each possible world, or
-- ENOMEM
abbrev pub ListsPast : Worlds → Worlds → List ℕ → Path → Result EntryLines Errno → Type 0
ListsPast meant means name p lines = (r : Reply) × Shows lines r × ((w : World) → meant w → Tells w name (look.Readdir p) r × means w)
