-- The handle gives the parts of the box of its printer.
use Rattle.doorvervain.proofs.IntoRaw.{gives_parts}
use Rattle.doorvervain.proofs.Structs.{edits_handle}
use Rattle.doorvervain.proofs.handle.EditsHandle.into_raw_parts.Statement.{statement}
use Rattle.doorvervain.proofs.handle.EditsHandle.into_raw_parts.Code.{unfolded}

pub into_raw_parts_spec : {M : Type 1} → statement M
into_raw_parts_spec 𝓤 𝓛 𝓜 𝓡 wired = gives_parts edits_handle 𝓤 𝓛 𝓜 𝓡 _ (unfolded 𝓤 𝓛.H 𝓜 𝓡 wired)
