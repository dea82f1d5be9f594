-- An mtime that a caller sets: of a file, of a directory, or of the root.
use Rattle.std.specs.Prelude.{◌≡◌, ◌≤◌, ℕ, length, [], ◌∷◌}
use Rattle.block_index.specs.Means.{blocks}
use Rattle.meta_index.specs.Means.{metadata}
use Rattle.pathkey.specs.Names.{Path}
use Rattle.pathkey.specs.declared.errno.Errno.{Errno}
use Rattle.reference.specs.Calls.{Outcome, path_fault, unless}
use Rattle.reference.specs.Indexes.{IndexesMean}
use Rattle.reference.specs.Tree.{Tree, entry_at, touched}
use Rattle.reference.specs.declared.reply.Reply.{Reply}
use Rattle.reference.specs.declared.reply.Reply.TheVariants.{Done, Fault}
use Rattle.call_compiler.specs.Compiled.{Messages, no_messages, metadata_after, blocks_after, MeanTree}
use Rattle.call_compiler.specs.declared.indexes.Indexes.{Indexes}

-- the tree in which the entry at a path has this mtime, and all else is unchanged; ENOENT or ENOTDIR if there is none
abbrev pub mtime_set : ℕ → Tree → Path → Outcome
mtime_set at t p = unless t (path_fault (entry_at t p) ∷ []) (touched at t p, Done)

-- what setting an mtime is compiled to
pub record SetsMtime (i : Indexes) (p : Path) (at : ℕ) (answer : Reply) (msgs : Messages) : Type 0 where
  -- the reply is that for the tree to which the indexes abstract
  pub reply : (t : Tree) → MeanTree i t → answer ≡ (mtime_set at t p).1
  -- after the messages they abstract to the tree with the mtime
  pub tree : (t : Tree) → MeanTree i t → IndexesMean (mtime_set at t p).0 (metadata_after msgs (metadata i.meta)) (blocks_after msgs (blocks i.block))
  -- if it fails, there is no message
  pub fault : (e : Errno) → answer ≡ Fault e → msgs ≡ no_messages
  -- otherwise at most one, for the metadata
  pub one : (length msgs.meta ≤ 1) × (msgs.block ≡ [])
