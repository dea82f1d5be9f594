use Rattle.std.proofs.Common.{◌≡◌, refl, subst}
use Rattle.block_index.specs.Means.{blocks}
use Rattle.call_compiler.specs.declared.indexes.Indexes.{Indexes}
use Rattle.meta_index.specs.Means.{metadata}
use Rattle.delta.specs.Changed.{AreAlikeBlocks, AreDiffering, is_in_either}
use Rattle.delta.proofs.ChangedFacts.{differing_everywhere}
use Rattle.delta.proofs.differing_keys.keys_within.Goals as goal

pub returns-clause-metas : goal.returns-clause-metas
returns-clause-metas c =
    differing_everywhere (λ m n. m ≡ n) (metadata c.args.old.now.indexes.meta) (metadata c.args.new.now.indexes.meta) (is_in_either c.args.meta.0.now c.args.meta.1.now) c.in_ok-metas.metas.items (λ o. refl) c.requires.meta
    (subst (λ (i : Indexes). AreDiffering (λ m n. m ≡ n) (metadata i.meta) (metadata c.args.new.now.indexes.meta) (is_in_either c.args.meta.0.now c.args.meta.1.now) c.in_ok-metas.metas.items) c.indexes-before.ensures
    (subst (λ (i : Indexes). AreDiffering (λ m n. m ≡ n) (metadata c.indexes-before.result.now.meta) (metadata i.meta) (is_in_either c.args.meta.0.now c.args.meta.1.now) c.in_ok-metas.metas.items) c.indexes-after.ensures c.in_ok-metas.ensures))

pub returns-clause-blocks : goal.returns-clause-blocks
returns-clause-blocks c =
    differing_everywhere AreAlikeBlocks (blocks c.args.old.now.indexes.block) (blocks c.args.new.now.indexes.block) (is_in_either c.args.block.0.now c.args.block.1.now) c.in_ok-blocks.blocks.items (λ o. refl) c.requires.block
    (subst (λ (i : Indexes). AreDiffering AreAlikeBlocks (blocks i.block) (blocks c.args.new.now.indexes.block) (is_in_either c.args.block.0.now c.args.block.1.now) c.in_ok-blocks.blocks.items) c.indexes-before.ensures
    (subst (λ (i : Indexes). AreDiffering AreAlikeBlocks (blocks c.indexes-before.result.now.block) (blocks i.block) (is_in_either c.args.block.0.now c.args.block.1.now) c.in_ok-blocks.blocks.items) c.indexes-after.ensures c.in_ok-blocks.ensures))
