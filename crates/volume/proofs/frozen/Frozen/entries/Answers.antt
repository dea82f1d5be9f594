use Rattle.std.proofs.Common.{None, ◌∙◌, subst}
use Rattle.std.proofs.lemmas.Result.{IfOk-weaker}
use Rattle.call_compiler.specs.declared.indexes.Indexes.{Indexes}
use Rattle.meta_index.specs.Means.{metadata}
use Rattle.pathkey.specs.Keys.{Key, enc}
use Rattle.scan.specs.Pairs.{IsScan}
use Rattle.volume.proofs.Walks.{entries_listed}
use Rattle.volume.proofs.frozen.Frozen.entries.Goals as goal

pub returns : goal.returns
returns c =
    let found : IsScan (metadata c.args.self.now.indexes.meta) (enc c.args.from.now) None c.args.limit c.in_ok-pairs.pairs.items =
    subst (λ (k : Key). IsScan (metadata c.args.self.now.indexes.meta) k None c.args.limit c.in_ok-pairs.pairs.items) (c.in_ok-lo.ensures ∙ c.key.ensures.value)
    (subst (λ (i : Indexes). IsScan (metadata i.meta) c.in_ok-lo.lo None c.args.limit c.in_ok-pairs.pairs.items) c.indexes.ensures c.in_ok-pairs.ensures) in
    IfOk-weaker c.with_paths.result _ _ (λ v reads t mean.
    entries_listed t (metadata c.args.self.now.indexes.meta) mean.indexes.tree mean.indexes.meta c.args.from.now c.args.limit c.in_ok-pairs.pairs.items found v.items reads) c.with_paths.ensures
