-- The bytes of a block, wherever they are stored.
use Rattle.std.specs.Prelude.{ℕ, List}
use Rattle.std.specs.Arc.{arc_value}
use Rattle.block_index.specs.declared.block_bytes.BlockBytes.{BlockBytes}
use Rattle.block_index.specs.declared.block_bytes.BlockBytes.TheVariants.{Slice, Own}

abbrev pub bytes_of : BlockBytes → List ℕ
bytes_of (Slice b) = b
bytes_of (Own a) = (arc_value a).items
