use Rattle.std.proofs.Common.{ap, subst, sym, ◌∙◌}
use Rattle.call_compiler.specs.declared.indexes.Indexes.{Indexes}
use Rattle.volume.specs.Forks.{IsForkOf}
use Rattle.volume.specs.Volumes.{MeanSome, PVolume}
use Rattle.volume.specs.declared.fs_root.FsRoot.{FsRoot}
use Rattle.volume.proofs.volume.Volume.fork.Goals as goal

pub from_root-requires : goal.from_root-requires
from_root-requires c =
    let same = c.in_ok-root.ensures ∙ ap (λ (i : Indexes). record { indexes = i; modified = c.self.inside.modified }) c.indexes.ensures in
    subst (λ (r : FsRoot). MeanSome r) (sym same) (record { tree = c.self.invariant.0.world.live; means = c.self.invariant.0.means.live })

pub returns : goal.returns
returns c =
    let same = c.in_ok-root.ensures ∙ ap (λ (i : Indexes). record { indexes = i; modified = c.self.inside.modified }) c.indexes.ensures in
    subst (λ (r : FsRoot). IsForkOf r c.from_root.result) (same ∙ ap (λ (v : PVolume). v.live) c.self.view_is) c.from_root.ensures
