-- The effects of updates of a block.
use Rattle.std.specs.Prelude.{ℕ, List, Option}
use Rattle.reference.specs.Indexes.{overlaid, shortened}
use Rattle.block_index.specs.Layers.{layered}
use Rattle.block_index.specs.declared.update.BlockUpdate.{BlockUpdate}
use Rattle.block_index.specs.declared.update.BlockUpdate.TheVariants.{Patch, CutTo, Layers}

-- what an update makes of a block, or of its absence
abbrev pub means : BlockUpdate → Option (List ℕ) → Option (List ℕ)
means (Patch p) = overlaid p.off p.bytes
means (CutTo n) = shortened n
means (Layers l) = layered l
