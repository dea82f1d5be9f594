-- The effect of setting a part of a file to zero on a volume.
use Rattle.std.specs.Prelude.{◌≡◌, ◌≤◌, ◌<◌, ◌*◌, ◌+◌, ℕ, length, None, Result, IfOk}
use Rattle.block_index.specs.Means.{blocks}
use Rattle.block_index.specs.Updates.{means as block_means}
use Rattle.call_compiler.specs.Compiled.{Messages, messages}
use Rattle.call_compiler.specs.Punched.{IsPunched, zeroing}
use Rattle.call_compiler.specs.declared.batch.Batch.{Batch}
use Rattle.call_compiler.specs.declared.indexes.Indexes.{Indexes}
use Rattle.meta_index.specs.Updates.{means as meta_means}
use Rattle.pathkey.specs.Keys.{block_key}
use Rattle.pathkey.specs.Names.{Path}
use Rattle.pathkey.specs.declared.errno.Errno.{Errno}
use Rattle.pathkey.specs.declared.errno.NoMemory.{NoMemory}
use Rattle.reference.specs.Indexes.{most_blocks}
use Rattle.reference.specs.Worlds.{World, Event, Ask, Replied, Fits, next}
use Rattle.reference.specs.declared.reply.Reply.{Reply}
use Rattle.reference.specs.declared.reply.Reply.TheVariants.{Count, Fault}
use Rattle.volume.specs.Changes.{Receives}
use Rattle.volume.specs.Marked.{PLive, KeepMarkedLists, KeepsMarks}
use Rattle.volume.specs.Volumes.{PVolume, Means, live_of}

-- what a hole of n bytes at off is compiled to, unless an allocation fails
abbrev pub Compiles : Indexes → Path → ℕ → ℕ → ℕ → Result (Reply × Batch) NoMemory → Type 0
Compiles i p off n at compiled = IfOk compiled (λ x. IsPunched i p off n at x.0 (messages x.1))

-- the event that it is in a world: a write of zeros
abbrev pub hole_in : Path → ℕ → ℕ → ℕ → World → Event
hole_in p off n at w = Ask (zeroing p off n w.live) at

-- each index received its half of one batch, which has few messages, however many bytes become zeros
pub record TakesFew (old new : PLive) : Type 0 where
  pub msgs : Messages
  pub few : (length msgs.meta ≤ 1) × (length msgs.block ≤ 3)
  pub meta : Receives meta_means msgs.meta old.indexes.meta.tree new.indexes.meta.tree
  pub block : Receives block_means msgs.block old.indexes.block.tree new.indexes.block.tree
  pub lists : KeepMarkedLists msgs old new

-- a hole of n bytes at off, at a timestamp: in each world its answer is that of a write of as many zeros as the file has bytes there, and
-- the volume then abstracts to the world after that write. Nothing changes if it fails or no byte is within the file, each live index
-- receives its half of one batch, the blocks that are entirely within the zeros are no longer stored, no snapshot changes, and all marks
-- stay
pub record Punches (p : Path) (off n at : ℕ) (r : Reply) (old new : PVolume) : Type 0 where
  pub leads : (w : World) → Means old w → Fits w (hole_in p off n at w) (Replied r) × Means new (next w (hole_in p off n at w) (Replied r))
  pub refused : (e : Errno) → r ≡ Fault e → new ≡ old
  pub nothing : r ≡ Count 0 → new ≡ old
  pub batch : TakesFew (live_of old) (live_of new)
  pub gone : (m : ℕ) → r ≡ Count m → (i : ℕ) → i < most_blocks → off ≤ 4096 * i → 4096 * i + 4096 ≤ off + m → blocks new.live.indexes.block (block_key p i) ≡ None
  pub snapshots : new.snapshots ≡ old.snapshots
  pub marks : new.marks ≡ old.marks
  pub kept : KeepsMarks (live_of old) (live_of new)
