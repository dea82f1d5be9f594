-- What became of a volume in which bytes of a file were copied to another file, or to the same.
use Rattle.std.specs.Prelude.{◌≡◌, ℕ, Result, IfOk}
use Rattle.block_index.specs.Updates.{means as block_means}
use Rattle.call_compiler.specs.Compiled.{Messages, messages}
use Rattle.call_compiler.specs.Copied.{IsCopied, SendsCopied, copying}
use Rattle.call_compiler.specs.declared.batch.Batch.{Batch}
use Rattle.call_compiler.specs.declared.indexes.Indexes.{Indexes}
use Rattle.meta_index.specs.Updates.{means as meta_means}
use Rattle.pathkey.specs.Names.{Path}
use Rattle.pathkey.specs.declared.errno.Errno.{Errno}
use Rattle.pathkey.specs.declared.errno.NoMemory.{NoMemory}
use Rattle.reference.specs.Worlds.{World, Event, Ask, Replied, Fits, next}
use Rattle.reference.specs.declared.reply.Reply.{Reply}
use Rattle.reference.specs.declared.reply.Reply.TheVariants.{Count, Fault}
use Rattle.volume.specs.Changes.{Receives}
use Rattle.volume.specs.Marked.{PLive, KeepMarkedLists, KeepsMarks}
use Rattle.volume.specs.Volumes.{PVolume, Means, live_of}

-- what a copy of n bytes at off of p to q from target on is compiled to, unless an allocation failed
abbrev pub Compiles : Indexes → Path → ℕ → Path → ℕ → ℕ → ℕ → Result (Reply × Batch) NoMemory → Type 0
Compiles i p off q target n at compiled = IfOk compiled (λ x. IsCopied i p off q target n at x.0 (messages x.1))

-- the event that it is in a world: a write of the bytes that the file has there
abbrev pub copy_in : Path → ℕ → Path → ℕ → ℕ → ℕ → World → Event
copy_in p off q target n at w = Ask (copying p off q target n w.live) at

-- each index took its half of one batch, which has few messages
pub record TakesCopied (r : Reply) (old new : PLive) : Type 0 where
  pub msgs : Messages
  pub few : SendsCopied r msgs
  pub meta : Receives meta_means msgs.meta old.indexes.meta.tree new.indexes.meta.tree
  pub block : Receives block_means msgs.block old.indexes.block.tree new.indexes.block.tree
  pub lists : KeepMarkedLists msgs old new

-- a copy of n bytes at off of p to q from target on, at a time: in each world that was meant it is answered as the write of the bytes
-- that the file has there, and the world after that write is meant. If it fails or copies no byte, it changes nothing; each live index
-- takes its half of one batch, no snapshot changes, and all marks stay
pub record Copies (p : Path) (off : ℕ) (q : Path) (target n at : ℕ) (r : Reply) (old new : PVolume) : Type 0 where
  pub leads : (w : World) → Means old w → Fits w (copy_in p off q target n at w) (Replied r) × Means new (next w (copy_in p off q target n at w) (Replied r))
  pub refused : (e : Errno) → r ≡ Fault e → new ≡ old
  pub nothing : r ≡ Count 0 → new ≡ old
  pub batch : TakesCopied r (live_of old) (live_of new)
  pub snapshots : new.snapshots ≡ old.snapshots
  pub marks : new.marks ≡ old.marks
  pub kept : KeepsMarks (live_of old) (live_of new)
