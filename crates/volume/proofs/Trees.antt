-- When indexes abstract to a tree: after a call and after a step. All facts about both indexes together are in this
-- module.
use Rattle.std.proofs.Common.{◌≡◌, ℕ, List, [], ◌∷◌, Option, ap, refl, subst, sym}
use Rattle.block_index.specs.Means.{blocks}
use Rattle.block_index.specs.Updates.{means as block_means}
use Rattle.block_index.specs.declared.index.BlockIndex.{BlockIndex}
use Rattle.block_index.specs.declared.update.BlockUpdate.{BlockUpdate}
use Rattle.call_compiler.specs.Compiled.{Messages, no_messages, MeanTree, IsCompiled}
use Rattle.call_compiler.specs.Laws.{HaveTaken}
use Rattle.call_compiler.specs.declared.indexes.Indexes.{Indexes}
use Rattle.call_compiler.proofs.Appending.{blocks_alike, meant_after}
use Rattle.message.specs.declared.msg.Msg.{Msg}
use Rattle.meta_index.specs.Means.{metadata}
use Rattle.meta_index.specs.Updates.{means as meta_means}
use Rattle.meta_index.specs.declared.index.MetaIndex.{MetaIndex}
use Rattle.meta_index.specs.declared.update.MetaUpdate.{MetaUpdate}
use Rattle.meta_index.proofs.Fresh.{means_alike}
use Rattle.node.proofs.Outcome.{on_undone}
use Rattle.node.specs.Appended.{Appended}
use Rattle.node.specs.Meaning.{value}
use Rattle.node.specs.Places.{way}
use Rattle.node.specs.Pure.{PTree}
use Rattle.node.specs.RootSteps.{StepAnswers}
use Rattle.node.specs.Steps.{UnlessDid}
use Rattle.node.specs.declared.place.TreeStep.{TreeStep}
use Rattle.node.specs.declared.step.StepKind.{StepKind}
use Rattle.node.specs.declared.step.StepKind.TheVariants.{FlushInner, FlushLeaf, SplitInner, MergeLeaves, MergeInner, RootUp, RootDown, DropCovered}
use Rattle.node.specs.declared.step.StepReply.{StepReply}
use Rattle.reference.specs.Calls.{does}
use Rattle.reference.specs.Indexes.{MetaMeans, BlocksMean}
use Rattle.reference.specs.Tree.{Tree}
use Rattle.reference.specs.declared.call.Call.{Call}
use Rattle.reference.specs.declared.reply.Meta.{Meta as MetaValue}
use Rattle.reference.specs.declared.reply.Reply.{Reply}
use Rattle.volume.specs.declared.event.Index.{Index}
use Rattle.volume.specs.declared.event.Index.TheVariants.{Meta, Block}
use Rattle.volume.specs.Jobs.{SameValues}
use Rattle.volume.specs.Changes.{Does, Receives, Batched, StepsIn}
use Rattle.volume.specs.Marked.{PLive, KeepMarkedLists}

-- ---- calls

-- indexes are their two halves
same_halves : (a b : Indexes) → b.meta ≡ a.meta → b.block ≡ a.block → b ≡ a
same_halves a b m d = λ i. record { meta = m i; block = d i }

-- a compiled call whose messages were appended
pub compiled_does : (a b : Indexes) (c : Call) (at : ℕ) (r : Reply) (msgs : Messages) → IsCompiled a c at r msgs → HaveTaken msgs a b → Does c at r a b
compiled_does a b c at r msgs compiled taken t m = (compiled.reply t m, meant_after (does at t c).0 a b msgs (compiled.tree t m) taken)

-- a tree to which messages were appended, and which is unchanged if there are none
pub receives : {U V : Type 0} (means : U → Option V → Option V) (msgs : List (Msg U V)) (a b : PTree U V) → Appended means msgs a b → (msgs ≡ [] → b ≡ a) → Receives means msgs a b
receives means [] a b appended untouched = untouched refl
receives means (m ∷ ms) a b appended untouched = appended

-- an append that does not touch an index whose half of the messages is empty
pub record Appends (msgs : Messages) (a b : Indexes) : Type 0 where
  pub taken : HaveTaken msgs a b
  pub no_meta : msgs.meta ≡ [] → b.meta ≡ a.meta
  pub no_block : msgs.block ≡ [] → b.block ≡ a.block

pub compiled_batched : (a b : PLive) (c : Call) (at : ℕ) (r : Reply) (msgs : Messages) → IsCompiled a.indexes c at r msgs → Appends msgs a.indexes b.indexes → KeepMarkedLists msgs a b → Batched c at a b
compiled_batched a b c at r msgs compiled appends lists = record {
  msgs = msgs;
  sends = compiled.sends;
  meta = receives meta_means msgs.meta a.indexes.meta.tree b.indexes.meta.tree appends.taken.meta (λ e. ap (λ (x : MetaIndex). x.tree) (appends.no_meta e));
  block = receives block_means msgs.block a.indexes.block.tree b.indexes.block.tree appends.taken.block (λ e. ap (λ (x : BlockIndex). x.tree) (appends.no_block e));
  lists = lists;
}

-- a batch without messages leaves the indexes unchanged
pub nothing_appended : (a b : Indexes) (msgs : Messages) → msgs ≡ no_messages → Appends msgs a b → b ≡ a
nothing_appended a b msgs none appends = same_halves a b (appends.no_meta (ap (λ (x : Messages). x.meta) none)) (appends.no_block (ap (λ (x : Messages). x.block) none))

-- ---- steps

-- no step changes the value at a key
value_kept : {U V : Type 0} (means : U → Option V → Option V) (kind : StepKind) (p : List ℕ) (i : ℕ) (r : StepReply) (a b : PTree U V) → StepAnswers means kind p i r a b → (k : List ℕ) → value means b.root k ≡ value means a.root k
value_kept means FlushInner p i r a b s = s.value_kept
value_kept means FlushLeaf p i r a b s = s.value_kept
value_kept means SplitInner p i r a b s = s.value_kept
value_kept means MergeLeaves p i r a b s = s.value_kept
value_kept means MergeInner p i r a b s = s.value_kept
value_kept means RootUp p i r a b s = s.value_kept
value_kept means RootDown p i r a b s = s.value_kept
value_kept means DropCovered p i r a b s = s.value_kept

-- so no step changes one in either index
pub step_values : (x : Index) (step : TreeStep) (r : StepReply) (a b : Indexes) → StepsIn x step r a b → SameValues a b
step_values Meta step r a b s = record {
  meta = value_kept meta_means step.kind (way step.at) step.slot r a.meta.tree b.meta.tree s.0;
  block = λ k. ap (λ (d : BlockIndex). blocks d k) s.1;
}
step_values Block step r a b s = record {
  meta = λ k. ap (λ (d : MetaIndex). metadata d k) s.1;
  block = value_kept block_means step.kind (way step.at) step.slot r a.block.tree b.block.tree s.0;
}

-- and the indexes abstract to the same tree
pub tree_kept : (x : Index) (step : TreeStep) (r : StepReply) (a b : Indexes) → StepsIn x step r a b → (t : Tree) → MeanTree a t → MeanTree b t
tree_kept Meta step r a b s t m = record {
  tree = m.tree;
  meta = means_alike t (metadata a.meta) (metadata b.meta) (value_kept meta_means step.kind (way step.at) step.slot r a.meta.tree b.meta.tree s.0) m.meta;
  blocks = subst (λ (d : BlockIndex). BlocksMean t (blocks d)) (sym s.1) m.blocks;
}
tree_kept Block step r a b s t m = record {
  tree = m.tree;
  meta = subst (λ (d : MetaIndex). MetaMeans t (metadata d)) (sym s.1) m.meta;
  blocks = blocks_alike t (blocks a.block) (blocks b.block) (value_kept block_means step.kind (way step.at) step.slot r a.block.tree b.block.tree s.0) m.blocks;
}

-- nor does anything that preserves the value at each key
pub tree_same_values : (a b : Indexes) → SameValues a b → (t : Tree) → MeanTree a t → MeanTree b t
tree_same_values a b s t m = record {
  tree = m.tree;
  meta = means_alike t (metadata a.meta) (metadata b.meta) s.meta m.meta;
  blocks = blocks_alike t (blocks a.block) (blocks b.block) s.block m.blocks;
}

-- a step that is not done leaves the tree unchanged
tree_same : {U V : Type 0} (means : U → Option V → Option V) (kind : StepKind) (p : List ℕ) (i : ℕ) (r : StepReply) (a b : PTree U V) → StepAnswers means kind p i r a b → UnlessDid r (b ≡ a)
tree_same means FlushInner p i r a b s = s.unchanged
tree_same means FlushLeaf p i r a b s = s.unchanged
tree_same means SplitInner p i r a b s = s.unchanged
tree_same means MergeLeaves p i r a b s = s.unchanged
tree_same means MergeInner p i r a b s = s.unchanged
tree_same means RootUp p i r a b s = s.unchanged
tree_same means RootDown p i r a b s = s.unchanged
tree_same means DropCovered p i r a b s = s.unchanged

-- and so the indexes
pub step_same : (x : Index) (step : TreeStep) (r : StepReply) (a b : Indexes) → StepsIn x step r a b → UnlessDid r (b ≡ a)
step_same Meta step r a b s =
    on_undone r (b.meta.tree ≡ a.meta.tree) (b ≡ a) (λ e. same_halves a b (ap (λ (t : PTree MetaUpdate MetaValue). record { tree = t }) e) s.1)
    (tree_same meta_means step.kind (way step.at) step.slot r a.meta.tree b.meta.tree s.0)
step_same Block step r a b s =
    on_undone r (b.block.tree ≡ a.block.tree) (b ≡ a) (λ e. same_halves a b s.1 (ap (λ (t : PTree BlockUpdate (List ℕ)). record { tree = t }) e))
    (tree_same block_means step.kind (way step.at) step.slot r a.block.tree b.block.tree s.0)
