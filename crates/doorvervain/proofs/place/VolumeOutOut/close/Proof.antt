-- No handle of a volume is here.
use Rattle.doorvervain.proofs.Closes.{is_closed}
use Rattle.doorvervain.proofs.Structs.{volume_out}
use Rattle.doorvervain.proofs.place.VolumeOutOut.close.Statement.{statement}
use Rattle.doorvervain.proofs.place.VolumeOutOut.close.Code.{unfolded}

pub close_spec : {M : Type 1} → statement M
close_spec 𝓤 𝓛 𝓜 𝓡 wired = is_closed volume_out 𝓤 𝓛 𝓜 𝓡 _ (unfolded 𝓤 𝓛.H 𝓜 𝓡 wired)
