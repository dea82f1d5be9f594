use Rattle.std.proofs.Common.{subst}
use Rattle.volume.specs.Volumes.{PVolume, IsVolume}
use Rattle.engine.proofs.engine.assert_volume_invariant.Goals as goal

pub returns : goal.returns
returns g c = subst (λ (v : PVolume). IsVolume v) c.requires c.assert_invariant.ensures
