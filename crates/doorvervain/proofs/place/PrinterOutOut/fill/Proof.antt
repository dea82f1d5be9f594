-- The handle of an image that is printed is put here.
use Rattle.doorvervain.proofs.Fills.{fills}
use Rattle.doorvervain.proofs.Structs.{printer_out}
use Rattle.doorvervain.proofs.place.PrinterOutOut.fill.Statement.{statement}
use Rattle.doorvervain.proofs.place.PrinterOutOut.fill.Code.{unfolded}

pub fill_spec : {M : Type 1} → statement M
fill_spec 𝓤 𝓛 𝓜 𝓡 wired = fills printer_out 𝓤 𝓛 𝓜 𝓡 _ (unfolded 𝓤 𝓛.H 𝓜 𝓡 wired)
