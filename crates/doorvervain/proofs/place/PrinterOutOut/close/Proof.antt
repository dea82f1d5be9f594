-- No handle of an image that is printed is here.
use Rattle.doorvervain.proofs.Closes.{is_closed}
use Rattle.doorvervain.proofs.Structs.{printer_out}
use Rattle.doorvervain.proofs.place.PrinterOutOut.close.Statement.{statement}
use Rattle.doorvervain.proofs.place.PrinterOutOut.close.Code.{unfolded}

pub close_spec : {M : Type 1} → statement M
close_spec 𝓤 𝓛 𝓜 𝓡 wired = is_closed printer_out 𝓤 𝓛 𝓜 𝓡 _ (unfolded 𝓤 𝓛.H 𝓜 𝓡 wired)
