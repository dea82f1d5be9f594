use Rattle.std.proofs.Common.{◌≡◌, Some, subst}
use Rattle.std.specs.FinMap as finite
use Rattle.volume.specs.Differences.{AgreeBeside}
use Rattle.volume.specs.Volumes.{PVolume}
use Rattle.volume.specs.declared.fs_root.FsRoot.{FsRoot}
use Rattle.volume.proofs.Differing.{tells_changes}
use Rattle.volume.proofs.volume.Volume.changed_since.Goals as goal

pub returns-clause-agree : goal.returns-clause-agree
returns-clause-agree c =
    let i = c.self.inside in
    let name = c.args.name.now in
    subst (λ (v : PVolume). (r : FsRoot) → finite.get v.snapshots name ≡ Some r → AgreeBeside c.in_ok-changes.changes r.indexes v.live.indexes) c.self.view_is
    (tells_changes c.in_ok-changes.changes i.changes i.snapshots i.live.indexes name c.in_ok-changes.ensures c.self.invariant.1)
