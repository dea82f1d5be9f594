-- What is required of a state that abstracts to worlds.
use Rattle.reference.specs.Worlds.{World, Event, Answer, Fits, next}
use Rattle.reference.specs.declared.reply.Reply.{Reply}
use Rattle.volume.specs.HistoryOf.{Tells}
use Rattle.volume.specs.declared.fs_root.FsRoot.{FsRoot}
use Rattle.shell.specs.declared.request.ReadCall.{ReadCall}
use Rattle.shell.specs.Runs.{Worlds}
use Rattle.shell.specs.Script.{call_of}

-- the answer fits each possible world, and the next one is possible then
abbrev pub Goes : Worlds → Worlds → Event → Answer → Type 0
Goes meant means e a = (w : World) → meant w → Fits w e a × means (next w e a)

-- the reply to a read is that of the tree, or ENOMEM
abbrev pub IsReported : ReadCall → Reply → FsRoot → Type 0
IsReported look r i = Tells (call_of look) r i
