-- What a file call is compiled to, in terms of the directory tree to which the indexes abstract.
use Rattle.std.specs.Prelude.{◌≡◌, ◌≤◌, ◌+◌, ◌⊎◌, ◌==◌, ◌&&◌, ℕ, nat_le, Bool, true, false, cond, length, List, [], ◌∷◌, Option, None, Some, Ok}
use Rattle.std.specs.List.{list_any}
use Rattle.block_index.specs.Changed.{patches}
use Rattle.block_index.specs.Means.{blocks}
use Rattle.block_index.specs.Updates.{means as block_means}
use Rattle.block_index.specs.declared.update.BlockUpdate.{BlockUpdate}
use Rattle.message.specs.declared.msg.Msg.{Msg}
use Rattle.message.specs.declared.msg.Msg.TheVariants.{Edit}
use Rattle.message.specs.Effects.{effects}
use Rattle.meta_index.specs.declared.update.MetaUpdate.{MetaUpdate}
use Rattle.meta_index.specs.declared.update.MetaUpdate.TheVariants.{Grow, Touch}
use Rattle.meta_index.specs.Means.{metadata, moment_reported}
use Rattle.meta_index.specs.Updates.{means as meta_means}
use Rattle.pathkey.specs.Keys.{Key, blocks_from, enc, is_in}
use Rattle.pathkey.specs.Names.{Path, is_root, parent}
use Rattle.pathkey.specs.declared.range.KeyRange.{KeyRange}
use Rattle.pathkey.specs.declared.errno.Errno.{Errno}
use Rattle.pathkey.specs.declared.errno.Errno.TheVariants.{ENOENT, ENOTDIR}
use Rattle.reference.specs.Tree.{Tree, File, At, Found, Missing, Blocked, entry_at}
use Rattle.reference.specs.Calls.{bytes_of, stat_of, parents_of, does}
use Rattle.reference.specs.Indexes.{Metadata, Blocks, IndexesMean}
use Rattle.reference.specs.declared.call.Call.{Call}
use Rattle.reference.specs.declared.call.Call.TheVariants.{Mkdir, Create, Write, Truncate, Unlink, Rmdir, Rename, Rmtree, Read, Stat as AskStat, Readdir}
use Rattle.reference.specs.declared.reply.Meta.{Meta}
use Rattle.reference.specs.declared.reply.Meta.TheVariants.{File as FileMeta}
use Rattle.reference.specs.declared.reply.Reply.{Reply}
use Rattle.reference.specs.declared.reply.Reply.TheVariants.{Fault}
use Rattle.call_compiler.specs.Moves.{AreFirstBelow}
use Rattle.call_compiler.specs.declared.batch.Batch.{Batch}
use Rattle.call_compiler.specs.declared.indexes.Indexes.{Indexes}

-- ---- messages

-- messages for both indexes, the oldest first
pub record Messages : Type 0 where
  pub meta : List (Msg MetaUpdate Meta)
  pub block : List (Msg BlockUpdate (List ℕ))

-- those of a batch
abbrev pub messages : Batch → Messages
messages b = record { meta = b.meta.items; block = b.block.items }

-- none
abbrev pub no_messages : Messages
no_messages = record { meta = []; block = [] }

-- how many there are
abbrev pub count : Messages → ℕ
count msgs = length msgs.meta + length msgs.block

-- the metadata, and the blocks, at each key after messages
abbrev pub metadata_after : Messages → Metadata → Metadata
metadata_after msgs m k = effects meta_means msgs.meta k (m k)

abbrev pub blocks_after : Messages → Blocks → Blocks
blocks_after msgs d k = effects block_means msgs.block k (d k)

-- ---- calls

-- both indexes abstract to the directory tree t
abbrev pub MeanTree : Indexes → Tree → Type 0
MeanTree i t = IndexesMean t (metadata i.meta) (blocks i.block)

-- the messages that set the mtime of the paths
abbrev pub touches : ℕ → List Path → List (Msg MetaUpdate Meta)
touches at [] = []
touches at (p ∷ ps) = Edit (enc p) (Touch at) ∷ touches at ps

-- whether the call, if it succeeds, sets the root's mtime: it adds or removes an entry of the root
abbrev pub touches_root : Call → Bool
touches_root c = list_any is_root (parents_of c)

-- a file with that length and mtime has at least n bytes, and this mtime
abbrev pub has_grown : ℕ → ℕ → ℕ → ℕ → Bool
has_grown n at len date = nat_le n len && (date == at)

-- the same for the entry at a path
abbrev pub has_grown_at : ℕ → ℕ → At → Bool
has_grown_at n at (Found (File date b)) = has_grown n at (length b) date
has_grown_at n at _ = false

-- the same for the metadata under a key
abbrev pub meta_has_grown : ℕ → ℕ → Option Meta → Bool
meta_has_grown n at (Some (FileMeta len date)) = has_grown n at len date
meta_has_grown n at _ = false

-- the message that raises the length of the file at the key to n and sets its mtime; none if it has both
abbrev pub growth : Key → ℕ → ℕ → Bool → List (Msg MetaUpdate Meta)
growth k n at has = cond has [] (Edit k (Grow n at) ∷ [])

-- the messages of a write of w at off: each block that the bytes touch gets its slice of them, and the file grows
abbrev pub write_messages : Path → ℕ → List ℕ → ℕ → Bool → Messages
write_messages p off w at has = record { meta = growth (enc p) (off + length w) at has; block = patches p off w }

-- no key of the range has a value
abbrev pub AreClear : Blocks → KeyRange → Type 0
AreClear d r = (k : Key) → is_in r k ≡ true → d k ≡ None

-- if the directory in which an entry is created already has the mtime, there is no message for it
abbrev pub SendsNew : Indexes → Path → ℕ → Messages → Type 0
SendsNew i p at msgs = (t : Tree) → MeanTree i t → moment_reported (entry_at t (parent p)) ≡ Ok at → count msgs ≤ 1

-- if the file that is removed has neither bytes nor blocks, there is no message for blocks
abbrev pub SendsGone : Indexes → Path → Messages → Type 0
SendsGone i p msgs = (t : Tree) → MeanTree i t → bytes_of (entry_at t p) ≡ [] → AreClear (blocks i.block) (blocks_from p 0) → msgs.block ≡ []

-- if a file already has the length and the mtime, there is no message
abbrev pub SendsCut : Indexes → Path → ℕ → ℕ → Messages → Type 0
SendsCut i p n at msgs = (t : Tree) → MeanTree i t → (b : List ℕ) → entry_at t p ≡ Found (File at b) → length b ≡ n → msgs ≡ no_messages

-- how many messages a call may send to both indexes: one if it creates an entry or removes an empty directory, two if it
-- removes a file, three if it shortens one, one if it lengthens one, two if it removes an entry with everything below it;
-- for a write its patches and one, unless the metadata under the path's key already have the length and the mtime; for a
-- rename one for each entry and block that is moved, and three; none for a call that only reads; and one more for each
-- directory whose mtime is set
abbrev pub Sends : Indexes → Call → ℕ → Messages → Type 0
Sends i (Mkdir p) at msgs = (count msgs ≤ 1 + length (parents_of (Mkdir p))) × SendsNew i p at msgs
Sends i (Create p) at msgs = (count msgs ≤ 1 + length (parents_of (Create p))) × SendsNew i p at msgs
Sends i (Write p off w) at msgs =
    (msgs ≡ no_messages)
    ⊎ (msgs ≡ write_messages p off w at (meta_has_grown (off + length w) at (metadata i.meta (enc p))))
Sends i (Truncate p n) at msgs = (count msgs ≤ 3) × ((t : Tree) → MeanTree i t → length (bytes_of (entry_at t p)) ≤ n → count msgs ≤ 1) × SendsCut i p n at msgs
Sends i (Unlink p) at msgs = (count msgs ≤ 2 + length (parents_of (Unlink p))) × SendsGone i p msgs
Sends i (Rmdir p) at msgs = count msgs ≤ 1 + length (parents_of (Rmdir p))
Sends i (Rmtree p) at msgs = count msgs ≤ 2 + length (parents_of (Rmtree p))
Sends i (Read p off n) at msgs = msgs ≡ no_messages
Sends i (AskStat p) at msgs = msgs ≡ no_messages
Sends i (Readdir p) at msgs = msgs ≡ no_messages
Sends i (Rename o n) at msgs =
    (msgs ≡ no_messages)
    ⊎ ((es : List (Key × Meta)) × (bs : List (Key × List ℕ)) × AreFirstBelow (metadata i.meta) o es × AreFirstBelow (blocks i.block) o bs × (count msgs ≤ length es + length bs + 3 + length (parents_of (Rename o n))))

-- what a call at a timestamp is compiled to
pub record IsCompiled (i : Indexes) (call : Call) (at : ℕ) (answer : Reply) (msgs : Messages) : Type 0 where
  -- the reply is that of the table of calls for the tree to which the indexes abstract
  pub reply : (t : Tree) → MeanTree i t → answer ≡ (does at t call).1
  -- after the messages they abstract to the tree after the call
  pub tree : (t : Tree) → MeanTree i t → IndexesMean (does at t call).0 (metadata_after msgs (metadata i.meta)) (blocks_after msgs (blocks i.block))
  -- a call that fails has no messages
  pub fault : (e : Errno) → answer ≡ Fault e → msgs ≡ no_messages
  -- and one that succeeds has no more than it needs
  pub sends : Sends i call at msgs

-- ---- the replies of calls

-- the reply of `stat` for the entry at a path
abbrev pub stat_at : At → Reply
stat_at (Found x) = stat_of (Found x)
stat_at Missing = Fault ENOENT
stat_at Blocked = Fault ENOTDIR
