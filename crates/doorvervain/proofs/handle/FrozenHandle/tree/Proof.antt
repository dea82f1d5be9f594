-- The handle lends its tree.
use Rattle.doorvervain.proofs.Lends.{lends}
use Rattle.doorvervain.proofs.Structs.{frozen_handle}
use Rattle.doorvervain.proofs.handle.FrozenHandle.tree.Statement.{statement}
use Rattle.doorvervain.proofs.handle.FrozenHandle.tree.Code.{unfolded}

pub tree_spec : {M : Type 1} → statement M
tree_spec 𝓤 𝓛 𝓜 𝓡 wired = lends frozen_handle 𝓤 𝓛 𝓜 𝓡 _ (unfolded 𝓤 𝓛.H 𝓜 𝓡 wired)
