use Rattle.std.proofs.Common.{subst, sym}
use Rattle.volume.specs.Forks.{IsForkOf}
use Rattle.volume.specs.Volumes.{MeanSome}
use Rattle.volume.specs.declared.fs_root.FsRoot.{FsRoot}
use Rattle.volume.proofs.Forking.{same_root}
use Rattle.volume.proofs.frozen.Frozen.fork.Goals as goal

pub from_root-requires : goal.from_root-requires
from_root-requires c =
    let same = same_root c.args.self.now c.in_ok-root.root _ _ c.in_ok-root.ensures c.indexes.ensures c.modified.ensures in
    subst (λ (r : FsRoot). MeanSome r) (sym same) c.assert_invariant.ensures

pub returns : goal.returns
returns c =
    let same = same_root c.args.self.now c.in_ok-root.root _ _ c.in_ok-root.ensures c.indexes.ensures c.modified.ensures in
    subst (λ (r : FsRoot). IsForkOf r c.from_root.result) same c.from_root.ensures
