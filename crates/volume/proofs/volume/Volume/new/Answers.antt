use Rattle.std.proofs.Common.{sym, subst}
use Rattle.call_compiler.specs.Compiled.{MeanTree}
use Rattle.call_compiler.specs.declared.indexes.Indexes.{Indexes}
use Rattle.reference.specs.Tree.{Dir, nothing}
use Rattle.volume.proofs.Differing.{tracks_none}
use Rattle.volume.proofs.Starting.{is_new, volume_empty}
use Rattle.volume.proofs.volume.Volume.new.Goals as goal

pub invariant_of-result : goal.invariant_of-result
invariant_of-result c = (
  volume_empty c.new-live.result c.new-2.result (subst (λ (i : Indexes). MeanTree i (Dir 0 nothing)) (sym c.new-live.ensures.indexes) c.in_ok-indexes.ensures.empty) c.new-2.ensures c.assert_invariant.ensures,
  tracks_none c.new-3.result c.new-2.result c.new-live.result.indexes c.new-3.ensures,
)

pub returns-clause-new : goal.returns-clause-new
returns-clause-new c = is_new c.args.shape c.in_ok-indexes.indexes c.new-live.result c.new-2.result c.in_ok-indexes.ensures.meta_shape c.in_ok-indexes.ensures.block_shape c.in_ok-indexes.ensures.empty c.new-live.ensures.indexes c.new-live.ensures.marks c.new-2.ensures
