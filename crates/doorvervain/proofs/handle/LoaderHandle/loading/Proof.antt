-- The handle lends its loading.
use Rattle.doorvervain.proofs.Lends.{lends}
use Rattle.doorvervain.proofs.Structs.{loader_handle}
use Rattle.doorvervain.proofs.handle.LoaderHandle.loading.Statement.{statement}
use Rattle.doorvervain.proofs.handle.LoaderHandle.loading.Code.{unfolded}

pub loading_spec : {M : Type 1} → statement M
loading_spec 𝓤 𝓛 𝓜 𝓡 wired = lends loader_handle 𝓤 𝓛 𝓜 𝓡 _ (unfolded 𝓤 𝓛.H 𝓜 𝓡 wired)
