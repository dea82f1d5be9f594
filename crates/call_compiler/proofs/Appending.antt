-- Appending a batch: the indexes then abstract to the tree after the call. Also the initial indexes.
use Rattle.std.proofs.Common.{◌≡◌, ℕ, List, [], ◌∷◌, refl, ◌∙◌, sym, None}
use Rattle.block_index.specs.Means.{blocks}
use Rattle.block_index.specs.declared.index.BlockIndex.{BlockIndex}
use Rattle.meta_index.specs.declared.index.MetaIndex.{MetaIndex}
use Rattle.meta_index.specs.Means.{metadata, IsMeantBy}
use Rattle.meta_index.proofs.Fresh.{means_alike}
use Rattle.message.specs.Effects.{effects}
use Rattle.meta_index.specs.Updates.{means as meta_means}
use Rattle.pathkey.specs.Names.{Path}
use Rattle.pathkey.specs.Keys.{Key, enc, block_key}
use Rattle.reference.specs.Tree.{Tree, Dir, nothing}
use Rattle.reference.specs.Indexes.{Metadata, Blocks, BlocksMean, IndexesMean, edit_at, touch, touch_at}
use Rattle.reference.proofs.FreshIndexes.{fresh_law}
use Rattle.reference.proofs.PointIndexes.{hold_alike}
use Rattle.call_compiler.specs.declared.indexes.Indexes.{Indexes}
use Rattle.call_compiler.specs.Compiled.{Messages, touches, metadata_after, blocks_after, MeanTree}
use Rattle.call_compiler.specs.Laws.{HaveTaken}

-- blocks with the same value at each key are those of the same tree
pub blocks_alike : (t : Tree) (d e : Blocks) → ((k : Key) → e k ≡ d k) → BlocksMean t d → BlocksMean t e
blocks_alike t d e alike old = record {
  blocks = λ p b u f. hold_alike (λ i. d (block_key p i)) (λ i. e (block_key p i)) b (λ i li. sym (alike (block_key p i))) (old.blocks p b u f);
  only_blocks = λ k v f. old.only_blocks k v (sym (alike k) ∙ f);
}

-- the indexes to which the messages were appended abstract to the tree after the call
pub meant_after : (t : Tree) (old new : Indexes) (msgs : Messages) → IndexesMean t (metadata_after msgs (metadata old.meta)) (blocks_after msgs (blocks old.block)) → HaveTaken msgs old new → MeanTree new t
meant_after t old new msgs means taken = record {
  tree = means.tree;
  meta = means_alike t (metadata_after msgs (metadata old.meta)) (metadata new.meta) taken.meta.value_after means.meta;
  blocks = blocks_alike t (blocks_after msgs (blocks old.block)) (blocks new.block) taken.block.value_after means.blocks;
}

-- an index without blocks, with the metadata of the empty root directory
pub empty_meant : (m : MetaIndex) (d : BlockIndex) → IsMeantBy (Dir 0 nothing) m → ((k : Key) → blocks d k ≡ None) → MeanTree (record { meta = m; block = d }) (Dir 0 nothing)
empty_meant m d means none = record {
  tree = means.tree;
  meta = means.meta;
  blocks = blocks_alike (Dir 0 nothing) (λ k. None) (blocks d) none fresh_law.blocks;
}

-- messages that set mtimes set them at each of the paths
pub touches_set : (at : ℕ) (ps : List Path) (f : Metadata) (k : Key) → effects meta_means (touches at ps) k (f k) ≡ touch_at at ps f k
touches_set at [] f k = refl
touches_set at (p ∷ ps) f k = touches_set at ps (edit_at (enc p) (touch at) f) k
