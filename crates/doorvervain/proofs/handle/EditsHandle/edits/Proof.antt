-- The handle lends its printer.
use Rattle.doorvervain.proofs.Lends.{lends}
use Rattle.doorvervain.proofs.Structs.{edits_handle}
use Rattle.doorvervain.proofs.handle.EditsHandle.edits.Statement.{statement}
use Rattle.doorvervain.proofs.handle.EditsHandle.edits.Code.{unfolded}

pub edits_spec : {M : Type 1} → statement M
edits_spec 𝓤 𝓛 𝓜 𝓡 wired = lends edits_handle 𝓤 𝓛 𝓜 𝓡 _ (unfolded 𝓤 𝓛.H 𝓜 𝓡 wired)
