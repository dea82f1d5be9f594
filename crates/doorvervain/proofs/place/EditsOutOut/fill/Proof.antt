-- The handle of a printer of edits is put here.
use Rattle.doorvervain.proofs.Fills.{fills}
use Rattle.doorvervain.proofs.Structs.{edits_out}
use Rattle.doorvervain.proofs.place.EditsOutOut.fill.Statement.{statement}
use Rattle.doorvervain.proofs.place.EditsOutOut.fill.Code.{unfolded}

pub fill_spec : {M : Type 1} → statement M
fill_spec 𝓤 𝓛 𝓜 𝓡 wired = fills edits_out 𝓤 𝓛 𝓜 𝓡 _ (unfolded 𝓤 𝓛.H 𝓜 𝓡 wired)
