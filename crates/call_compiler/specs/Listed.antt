-- The entries of a directory.
use Rattle.std.specs.Prelude.{◌≡◌, ℕ, List, Result, Ok, Err}
use Rattle.pathkey.specs.Names.{Name, Path}
use Rattle.pathkey.specs.declared.errno.Errno.{Errno}
use Rattle.reference.specs.Calls.{does}
use Rattle.reference.specs.Tree.{Tree}
use Rattle.reference.specs.declared.call.Call.{Call}
use Rattle.reference.specs.declared.call.Call.TheVariants.{Readdir}
use Rattle.reference.specs.declared.reply.Kind.{Kind}
use Rattle.reference.specs.declared.reply.Reply.{Reply}
use Rattle.reference.specs.declared.reply.Reply.TheVariants.{Names, Fault}
use Rattle.call_compiler.specs.Compiled.{MeanTree}
use Rattle.call_compiler.specs.declared.indexes.Indexes.{Indexes}

-- the reply is that of the table of calls for each tree to which the indexes abstract, whatever the timestamp
abbrev pub IsReply : Indexes → Call → Reply → Type 0
IsReply i c r = (t : Tree) (at : ℕ) → MeanTree i t → r ≡ (does at t c).1

-- the entries of the directory at the path, which satisfy `Has`; or why there is no directory
abbrev pub TellsEntries : Indexes → Path → (List (Kind × Name) → Type 0) → Result (Unit {0}) Errno → Type 0
TellsEntries i p Has (Ok done) = (es : List (Kind × Name)) × Has es × IsReply i (Readdir p) (Names es)
TellsEntries i p Has (Err e) = IsReply i (Readdir p) (Fault e)
