-- The effect of setting an mtime on a volume.
use Rattle.std.specs.Prelude.{◌≡◌, ◌≤◌, ◌⊎◌, ℕ, Bool, length, [], Result, IfOk}
use Rattle.call_compiler.specs.Compiled.{Messages, messages}
use Rattle.call_compiler.specs.Mtimes.{SetsMtime as CompilesMtime, mtime_set}
use Rattle.call_compiler.specs.declared.batch.Batch.{Batch}
use Rattle.call_compiler.specs.declared.indexes.Indexes.{Indexes}
use Rattle.meta_index.specs.Updates.{means as meta_means}
use Rattle.pathkey.specs.Names.{Path, is_root}
use Rattle.pathkey.specs.declared.errno.Errno.{Errno}
use Rattle.pathkey.specs.declared.errno.Errno.TheVariants.{ENOMEM}
use Rattle.pathkey.specs.declared.errno.NoMemory.{NoMemory}
use Rattle.reference.specs.Worlds.{World}
use Rattle.reference.specs.declared.reply.Reply.{Reply}
use Rattle.reference.specs.declared.reply.Reply.TheVariants.{Fault}
use Rattle.volume.specs.Changes.{Receives}
use Rattle.volume.specs.Marked.{PLive, KeepMarkedLists, KeepsMarks}
use Rattle.volume.specs.Volumes.{PVolume, Means, live_of}

-- what setting an mtime is compiled to, unless an allocation fails
abbrev pub Compiles : Indexes → Path → ℕ → Result (Reply × Batch) NoMemory → Type 0
Compiles i p at compiled = IfOk compiled (λ x. CompilesMtime i p at x.0 (messages x.1))

-- the same, and whether it is the root's
pub record Asks (i : Indexes) (p : Path) (at : ℕ) (compiled : Result (Reply × Batch) NoMemory) (root : Bool) : Type 0 where
  pub compiles : Compiles i p at compiled
  pub is_root : root ≡ is_root p

-- the world in which the entry at the path has this mtime; the same world if there is none
abbrev pub with_mtime : Path → ℕ → World → World
with_mtime p at w = record w { live = (mtime_set at w.live p).0 }

-- the reply is that of the world's live tree, and the volume abstracts to the world with the mtime
abbrev pub Sets : Path → ℕ → Reply → PVolume → World → Type 0
Sets p at r new w = (r ≡ (mtime_set at w.live p).1) × Means new (with_mtime p at w)

-- the index for metadata received the one message, and that for blocks is unchanged
pub record TakesOne (old new : PLive) : Type 0 where
  pub msgs : Messages
  pub one : (length msgs.meta ≤ 1) × (msgs.block ≡ [])
  pub meta : Receives meta_means msgs.meta old.indexes.meta.tree new.indexes.meta.tree
  pub block : new.indexes.block ≡ old.indexes.block
  pub lists : KeepMarkedLists msgs old new

-- setting an mtime: in each world the reply is that of the world's live tree, and the volume then abstracts to the world with the mtime,
-- or the reply is ENOMEM. A fault changes nothing. At most one message is sent, no snapshot changes, and all marks stay
pub record SetsMtime (p : Path) (at : ℕ) (r : Reply) (old new : PVolume) : Type 0 where
  pub leads : (w : World) → Means old w → Sets p at r new w ⊎ (r ≡ Fault ENOMEM)
  pub refused : (e : Errno) → r ≡ Fault e → new ≡ old
  pub batch : TakesOne (live_of old) (live_of new)
  pub snapshots : new.snapshots ≡ old.snapshots
  pub marks : new.marks ≡ old.marks
  pub kept : KeepsMarks (live_of old) (live_of new)
