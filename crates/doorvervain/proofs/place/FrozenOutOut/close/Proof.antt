-- No handle of a frozen tree is here.
use Rattle.doorvervain.proofs.Closes.{is_closed}
use Rattle.doorvervain.proofs.Structs.{frozen_out}
use Rattle.doorvervain.proofs.place.FrozenOutOut.close.Statement.{statement}
use Rattle.doorvervain.proofs.place.FrozenOutOut.close.Code.{unfolded}

pub close_spec : {M : Type 1} → statement M
close_spec 𝓤 𝓛 𝓜 𝓡 wired = is_closed frozen_out 𝓤 𝓛 𝓜 𝓡 _ (unfolded 𝓤 𝓛.H 𝓜 𝓡 wired)
