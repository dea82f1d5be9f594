-- Holes: bytes of a file that become zeros, as far as the file reaches.
use Rattle.std.specs.Prelude.{◌≡◌, ◌≤◌, ◌<◌, ◌+◌, ◌-◌, ◌*◌, ◌/◌, ◌++◌, ◌⊎◌, ℕ, min, max, length, replicate, [], ◌∷◌, Some, None}
use Rattle.block_index.specs.Changed.{Messages as BlockMessages, patch_of}
use Rattle.block_index.specs.Means.{blocks}
use Rattle.message.specs.declared.msg.Msg.TheVariants.{DelRange}
use Rattle.meta_index.specs.Means.{metadata}
use Rattle.pathkey.specs.Keys.{block_key}
use Rattle.pathkey.specs.Names.{Path}
use Rattle.pathkey.specs.declared.errno.Errno.{Errno}
use Rattle.pathkey.specs.declared.range.KeyRange.{KeyRange}
use Rattle.reference.specs.Calls.{bytes_of, does}
use Rattle.reference.specs.Indexes.{Blocks, IndexesMean, most_blocks}
use Rattle.reference.specs.Tree.{Tree, At, entry_at}
use Rattle.reference.specs.declared.call.Call.{Call}
use Rattle.reference.specs.declared.call.Call.TheVariants.{Write}
use Rattle.reference.specs.declared.reply.Reply.{Reply}
use Rattle.reference.specs.declared.reply.Reply.TheVariants.{Count, Fault}
use Rattle.call_compiler.specs.Compiled.{Messages, no_messages, metadata_after, blocks_after, MeanTree}
use Rattle.call_compiler.specs.declared.indexes.Indexes.{Indexes}

-- how many of n bytes from off on are within a file of so many bytes
abbrev pub reached_of : ℕ → ℕ → ℕ → ℕ
reached_of len off n = min (len - off) n

-- the same for the entry at a path; none if that is not a file
abbrev pub reached : At → ℕ → ℕ → ℕ
reached here off n = reached_of (length (bytes_of here)) off n

-- the call that a hole of n bytes at off is in a tree: a write of as many zeros as the file has bytes there
abbrev pub zeroing : Path → ℕ → ℕ → Tree → Call
zeroing p off n t = Write p off (replicate (reached (entry_at t p) off n) 0)

-- what a hole at a timestamp is compiled to
pub record IsPunched (i : Indexes) (p : Path) (off n at : ℕ) (answer : Reply) (msgs : Messages) : Type 0 where
  -- the reply is that of the write of zeros in the tree to which the indexes abstract
  pub reply : (t : Tree) → MeanTree i t → answer ≡ (does at t (zeroing p off n t)).1
  -- after the messages they abstract to the tree after this write
  pub tree : (t : Tree) → MeanTree i t → IndexesMean (does at t (zeroing p off n t)).0 (metadata_after msgs (metadata i.meta)) (blocks_after msgs (blocks i.block))
  -- if it fails, or no byte is within the file, there is no message
  pub fault : (e : Errno) → answer ≡ Fault e → msgs ≡ no_messages
  pub nothing : answer ≡ Count 0 → msgs ≡ no_messages
  -- otherwise there are few
  pub few : (length msgs.meta ≤ 1) × (length msgs.block ≤ 3)
  -- the blocks that are entirely among the zeros are no longer stored
  pub gone : (t : Tree) → MeanTree i t → (m : ℕ) → answer ≡ Count m → (j : ℕ) → j < most_blocks → off ≤ 4096 * j → 4096 * j + 4096 ≤ off + m → blocks_after msgs (blocks i.block) (block_key p j) ≡ None

-- ---- its messages for blocks

-- those that write zeros over bytes a up to b of p, all in one block: one patch, or none if there are no such bytes or the block
-- is not stored
abbrev pub AppliesZeros : Blocks → Path → ℕ → ℕ → BlockMessages → Type 0
AppliesZeros d p a b ms =
    ((ms ≡ []) × ((b ≤ a) ⊎ (d (block_key p (a / 4096)) ≡ None)))
    ⊎ ((a < b) × (ms ≡ patch_of p a (replicate (b - a) 0) (a / 4096) ∷ []))

-- the keys of the blocks of p from number f up to l
abbrev pub blocks_between : Path → ℕ → ℕ → KeyRange
blocks_between p f l = record { lo = block_key p f; hi = Some (block_key p l) }

-- those that delete the blocks of p from number f up to l
abbrev pub TakesOut : Path → ℕ → ℕ → BlockMessages → Type 0
TakesOut p f l ms =
    ((l ≤ f) × (ms ≡ []))
    ⊎ ((f < l) × (ms ≡ DelRange (blocks_between p f l) ∷ []))

-- the first block that begins at or after off
abbrev pub block_behind : ℕ → ℕ
block_behind off = (off + 4095) / 4096

-- the ends of the two parts of a hole around its whole blocks: where the first part ends, and where the second begins
abbrev pub head_end : ℕ → ℕ → ℕ
head_end off end = min end (4096 * block_behind off)

abbrev pub tail_start : ℕ → ℕ → ℕ
tail_start off end = max (head_end off end) (4096 * (end / 4096))

-- those that set bytes off up to end of p to zero
pub record IsHole (d : Blocks) (p : Path) (off end : ℕ) (ms : BlockMessages) : Type 0 where
  pub head : BlockMessages
  pub whole : BlockMessages
  pub tail : BlockMessages
  pub parts : ms ≡ (head ++ whole) ++ tail
  pub applies_head : AppliesZeros d p off (head_end off end) head
  pub takes_whole : TakesOut p (block_behind off) (end / 4096) whole
  pub applies_tail : AppliesZeros d p (tail_start off end) end tail
