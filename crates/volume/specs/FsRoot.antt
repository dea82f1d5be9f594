-- The mtime of the root, which is stored beside the indexes: its value after a call, and after planting an entry.
use Rattle.std.specs.Prelude.{◌&&◌, ℕ, Bool, if◌then◌else◌, Result, Ok, Err}
use Rattle.pathkey.specs.Names.{Path, is_root}
use Rattle.reference.specs.Calls.{is_done}
use Rattle.reference.specs.Plant.{modified_of}
use Rattle.reference.specs.Worlds.{Snapped}
use Rattle.reference.specs.declared.reply.Meta.{Meta}
use Rattle.reference.specs.declared.reply.Reply.{Reply}
use Rattle.reference.specs.declared.reply.Reply.TheVariants.{Fault}
use Rattle.pathkey.specs.declared.errno.Errno.TheVariants.{ENOMEM}

-- the reply of a call whose messages are appended, or ENOMEM
abbrev pub reply_to : {T E : Type 0} → Result T E → Reply → Reply
reply_to (Ok x) r = r
reply_to (Err e) r = Fault ENOMEM

-- a call that succeeds, and adds or removes an entry of the root, sets the root's mtime to its timestamp
abbrev pub after_call : Bool → Reply → ℕ → ℕ → ℕ
after_call in_root r at modified = if is_done r && in_root then at else modified

-- only planting at the root itself sets the root's mtime
abbrev pub after_planting : Snapped → Path → Meta → ℕ → ℕ
after_planting (Ok x) p m modified = if is_root p then modified_of m else modified
after_planting (Err e) p m modified = modified
