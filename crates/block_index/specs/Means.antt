-- The blocks to which an index abstracts.
use Rattle.node.specs.Meaning.{value}
use Rattle.reference.specs.Indexes.{Blocks}
use Rattle.block_index.specs.declared.index.BlockIndex.{BlockIndex}
use Rattle.block_index.specs.Updates.{means}

-- the block at each key
abbrev pub blocks : BlockIndex → Blocks
blocks d = value means d.tree.root
