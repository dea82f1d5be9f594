-- No handle of a printer of edits is here.
use Rattle.doorvervain.proofs.Closes.{is_closed}
use Rattle.doorvervain.proofs.Structs.{edits_out}
use Rattle.doorvervain.proofs.place.EditsOutOut.close.Statement.{statement}
use Rattle.doorvervain.proofs.place.EditsOutOut.close.Code.{unfolded}

pub close_spec : {M : Type 1} → statement M
close_spec 𝓤 𝓛 𝓜 𝓡 wired = is_closed edits_out 𝓤 𝓛 𝓜 𝓡 _ (unfolded 𝓤 𝓛.H 𝓜 𝓡 wired)
