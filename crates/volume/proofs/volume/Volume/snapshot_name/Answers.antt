use Rattle.std.proofs.Common.{subst}
use Rattle.volume.specs.Volumes.{AreNames, PVolume, names_in}
use Rattle.volume.proofs.volume.Volume.snapshot_name.Goals as goal

pub returns-clause-names : goal.returns-clause-names
returns-clause-names c = subst (λ (v : PVolume). AreNames v.snapshots (names_in v.snapshots)) c.self.view_is c.name.ensures.names
