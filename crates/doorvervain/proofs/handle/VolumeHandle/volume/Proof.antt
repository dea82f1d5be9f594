-- The handle lends its volume.
use Rattle.doorvervain.proofs.Lends.{lends}
use Rattle.doorvervain.proofs.Structs.{volume_handle}
use Rattle.doorvervain.proofs.handle.VolumeHandle.volume.Statement.{statement}
use Rattle.doorvervain.proofs.handle.VolumeHandle.volume.Code.{unfolded}

pub volume_spec : {M : Type 1} → statement M
volume_spec 𝓤 𝓛 𝓜 𝓡 wired = lends volume_handle 𝓤 𝓛 𝓜 𝓡 _ (unfolded 𝓤 𝓛.H 𝓜 𝓡 wired)
