-- Laws of what calls are compiled to.
use Rattle.std.specs.Prelude.{◌≡◌, ◌&&◌, ℕ, if◌then◌else◌}
use Rattle.block_index.specs.Means.{blocks}
use Rattle.block_index.specs.Updates.{means as block_means}
use Rattle.meta_index.specs.Means.{metadata}
use Rattle.meta_index.specs.Updates.{means as meta_means}
use Rattle.node.specs.Appended.{Appended}
use Rattle.pathkey.specs.Keys.{enc}
use Rattle.pathkey.specs.Names.{Path, IsPath}
use Rattle.reference.specs.Calls.{is_done, does}
use Rattle.reference.specs.Tree.{Tree, entry_at, moment}
use Rattle.reference.specs.Indexes.{IndexesMean}
use Rattle.call_compiler.specs.declared.indexes.Indexes.{Indexes}
use Rattle.reference.specs.declared.call.Call.{Call}
use Rattle.call_compiler.specs.Compiled.{Messages, metadata_after, blocks_after, has_grown_at, meta_has_grown, MeanTree, touches_root}

-- each index received its half of the messages
pub record HaveTaken (msgs : Messages) (old new : Indexes) : Type 0 where
  pub meta : Appended meta_means msgs.meta old.meta.tree new.meta.tree
  pub block : Appended block_means msgs.block old.block.tree new.block.tree

-- indexes that received messages abstract to the tree after them
abbrev pub AppendLaw : Type 0
AppendLaw = (t : Tree) (old new : Indexes) (msgs : Messages) → IndexesMean t (metadata_after msgs (metadata old.meta)) (blocks_after msgs (blocks old.block)) → HaveTaken msgs old new → MeanTree new t

-- after a call that succeeds and adds or removes an entry of the root, the root's mtime is the call's timestamp; any other call
-- does not change it
abbrev pub RootLaw : Type 0
RootLaw = (at : ℕ) (t : Tree) (c : Call) → moment (does at t c).0 ≡ if is_done (does at t c).1 && touches_root c then at else moment t

-- if the indexes abstract to a tree, the metadata under a path's key have the length and the mtime exactly if the entry there has
-- them
abbrev pub GrowthLaw : Type 0
GrowthLaw = (i : Indexes) (t : Tree) (p : Path) (n at : ℕ) → IsPath p → MeanTree i t → meta_has_grown n at (metadata i.meta (enc p)) ≡ has_grown_at n at (entry_at t p)
