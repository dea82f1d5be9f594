-- The handle lends its printing.
use Rattle.doorvervain.proofs.Lends.{lends}
use Rattle.doorvervain.proofs.Structs.{printer_handle}
use Rattle.doorvervain.proofs.handle.PrinterHandle.printing.Statement.{statement}
use Rattle.doorvervain.proofs.handle.PrinterHandle.printing.Code.{unfolded}

pub printing_spec : {M : Type 1} → statement M
printing_spec 𝓤 𝓛 𝓜 𝓡 wired = lends printer_handle 𝓤 𝓛 𝓜 𝓡 _ (unfolded 𝓤 𝓛.H 𝓜 𝓡 wired)
