-- Copies: bytes of a file that are written to another file, or to the same.
use Rattle.std.specs.Prelude.{◌≡◌, ◌≤◌, ◌<◌, ◌+◌, ◌/◌, ◌%◌, ◌&&◌, ◌==◌, ℕ, List, length, take, drop, Option, Some, if◌then◌else◌}
use Rattle.block_index.specs.Changed.{Messages as BlockMessages, after}
use Rattle.block_index.specs.Means.{blocks}
use Rattle.meta_index.specs.Means.{metadata}
use Rattle.pathkey.specs.Keys.{Key, block_key}
use Rattle.pathkey.specs.Names.{Path}
use Rattle.pathkey.specs.declared.errno.Errno.{Errno}
use Rattle.reference.specs.Calls.{does}
use Rattle.reference.specs.Indexes.{Blocks, BlocksChange, BlocksMean, Hold, IndexesMean}
use Rattle.reference.specs.Reads.{Bytes, look}
use Rattle.reference.specs.Tree.{Tree, At, Found, File, entry_at, over}
use Rattle.reference.specs.declared.call.Call.{Call}
use Rattle.reference.specs.declared.call.Call.TheVariants.{Read, Write}
use Rattle.reference.specs.declared.reply.Reply.{Reply}
use Rattle.reference.specs.declared.reply.Reply.TheVariants.{Count, Fault}
use Rattle.call_compiler.specs.Compiled.{Messages, no_messages, metadata_after, blocks_after, MeanTree}
use Rattle.call_compiler.specs.declared.indexes.Indexes.{Indexes}

-- the call that a copy of n bytes at off of what is at p to q from target on is: a write of the bytes that a file has there; where
-- no file is at p, a read of none of its bytes, which fails
abbrev pub copying_of : At → Path → ℕ → Path → ℕ → ℕ → Call
copying_of (Found (File date b)) p off q target n = Write q target (take n (drop off b))
copying_of here p off q target n = Read p off 0

-- the same in a tree
abbrev pub copying : Path → ℕ → Path → ℕ → ℕ → Tree → Call
copying p off q target n t = copying_of (entry_at t p) p off q target n

-- at most one message for the metadata, and for the blocks one for each that m bytes fill and two more
abbrev pub SendsCopied : Reply → Messages → Type 0
SendsCopied answer msgs = (length msgs.meta ≤ 1) × ((m : ℕ) → answer ≡ Count m → length msgs.block ≤ m / 4096 + 2)

-- what a copy at a time is compiled to
pub record IsCopied (i : Indexes) (p : Path) (off : ℕ) (q : Path) (target n at : ℕ) (answer : Reply) (msgs : Messages) : Type 0 where
  -- the reply is that of the write, or of the read that fails, in the tree that the indexes mean
  pub reply : (t : Tree) → MeanTree i t → answer ≡ (does at t (copying p off q target n t)).1
  -- after the messages they mean the tree that this call makes of it
  pub tree : (t : Tree) → MeanTree i t → IndexesMean (does at t (copying p off q target n t)).0 (metadata_after msgs (metadata i.meta)) (blocks_after msgs (blocks i.block))
  -- if it fails, or copies no byte, there is no message
  pub fault : (e : Errno) → answer ≡ Fault e → msgs ≡ no_messages
  pub nothing : answer ≡ Count 0 → msgs ≡ no_messages
  -- and otherwise few
  pub few : SendsCopied answer msgs

-- ---- its messages for blocks

-- the messages overwrite the file at q with the bytes w from off on, over these blocks, and change nothing else
pub record Overwrites (d : Blocks) (q : Path) (off : ℕ) (w : List ℕ) (ms : BlockMessages) : Type 0 where
  pub change : ℕ → Option (List ℕ) → Option (List ℕ)
  pub changes : BlocksChange change q d (after ms d)
  pub holds : (b : List ℕ) → Hold (λ i. d (block_key q i)) b → Hold (λ i. change i (d (block_key q i))) (over b off w)

-- if the blocks are those of a tree, with a file of so many bytes at p, this holds of n bytes of it from off on
abbrev pub HoldsOfBytes : Blocks → Path → ℕ → ℕ → ℕ → (List ℕ → Type 0) → Type 0
HoldsOfBytes d p size off n F = (t : Tree) (b : List ℕ) → BlocksMean t d → look t p ≡ Some (Bytes b) → length b ≡ size → F (take n (drop off b))

-- n blocks of q from number t on become those of p from number s on, stored or not, and nothing else changes
pub record Shares (d : Blocks) (p : Path) (s : ℕ) (q : Path) (t n : ℕ) (ms : BlockMessages) : Type 0 where
  pub shared : (j : ℕ) → j < n → after ms d (block_key q (t + j)) ≡ d (block_key p (s + j))
  pub elsewhere : (k : Key) → ((j : ℕ) → j < n → k ≡ block_key q (t + j) → ⊥) → after ms d k ≡ d k

-- the same if the blocks are those of a tree
abbrev pub SharesWhereMeant : Blocks → Path → ℕ → Path → ℕ → ℕ → BlockMessages → Type 0
SharesWhereMeant d p s q t n ms = (u : Tree) → BlocksMean u d → Shares d p s q t n ms

-- how many whole blocks a copy of n bytes at off to target shares: none unless both begin at a block's start
abbrev pub whole_of : ℕ → ℕ → ℕ → ℕ
whole_of off target n = if (off % 4096 == 0) && (target % 4096 == 0) then n / 4096 else 0
