-- Indexes that agree at each key, and the index of the empty root directory.
use Rattle.std.proofs.Common.{◌≡◌, [], ◌∷◌, ◌∙◌, sym, ap, None}
use Rattle.message.specs.declared.msg.Msg.TheVariants.{Put}
use Rattle.node.specs.Appended.{Appended}
use Rattle.node.specs.Meaning.{value}
use Rattle.node.specs.Pure.{PNode, PTree, empty_root}
use Rattle.pathkey.specs.Keys.{Key, enc}
use Rattle.reference.specs.Tree.{Tree, Dir, nothing}
use Rattle.reference.specs.Indexes.{Metadata, MetaMeans, put_at}
use Rattle.reference.specs.declared.reply.Meta.{Meta}
use Rattle.reference.specs.declared.reply.Meta.TheVariants.{Dir as DirMeta}
use Rattle.reference.proofs.FreshIndexes.{fresh_law}
use Rattle.meta_index.specs.declared.index.MetaIndex.{MetaIndex}
use Rattle.meta_index.specs.declared.update.MetaUpdate.{MetaUpdate}
use Rattle.meta_index.specs.Means.{metadata, IsMeantBy}
use Rattle.meta_index.specs.Updates.{means}

-- an index with the same value at each key abstracts to the same tree
pub means_alike : (t : Tree) (m n : Metadata) → ((k : Key) → n k ≡ m k) → MetaMeans t m → MetaMeans t n
means_alike t m n alike old = record {
  paths = λ p u. alike (enc p) ∙ old.paths p u;
  only_paths = λ k v e. old.only_paths k v (sym (alike k) ∙ e);
}

-- with the root's entry, a new tree abstracts to the empty root directory
pub root_alone : (old : PTree MetaUpdate Meta) (new : MetaIndex) → old.root ≡ empty_root → Appended means (Put [] (DirMeta 0) ∷ []) old new.tree → IsMeantBy (Dir 0 nothing) new
root_alone old new fresh appended = record {
  tree = fresh_law.tree;
  meta = means_alike (Dir 0 nothing) (put_at [] (DirMeta 0) (λ k. None)) (metadata new)
      (λ k. appended.value_after k ∙ ap (λ (n : PNode MetaUpdate Meta). put_at [] (DirMeta 0) (value means n) k) fresh) fresh_law.meta;
}
