use Rattle.std.proofs.Common.{inl, sym, subst}
use Rattle.volume.specs.Volumes.{MeanRooted}
use Rattle.volume.specs.declared.fs_root.FsRoot.{FsRoot}
use Rattle.volume.proofs.frozen.Frozen.read.Goals as goal

pub returns-in-Ok : goal.returns-in-Ok
returns-in-Ok c = λ t at mean.
    let here = subst (λ (r : FsRoot). MeanRooted r t) (sym c.self.view_is) mean in
    inl ((c.in-Ok.ensures at).reply t here.indexes)
