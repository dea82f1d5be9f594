-- What messages make of the blocks of a file, and the messages of a write and of a cut.
use Rattle.std.specs.Prelude.{ℕ, ◌+◌, ◌-◌, ◌*◌, ◌/◌, ◌%◌, List, [], ◌∷◌, length, map, Option, nat_eq, if◌then◌else◌}
use Rattle.std.specs.List.{range_with_len}
use Rattle.message.specs.declared.msg.Msg.{Msg}
use Rattle.message.specs.declared.msg.Msg.TheVariants.{Edit, DelRange}
use Rattle.message.specs.Effects.{effects}
use Rattle.reference.specs.Tree.{Tree}
use Rattle.pathkey.specs.Names.{Path}
use Rattle.pathkey.specs.Keys.{block_key, blocks_from}
use Rattle.reference.specs.Indexes.{Blocks, BlocksChange, BlocksMean, cut_block, piece}
use Rattle.block_index.specs.declared.update.BlockUpdate.{BlockUpdate}
use Rattle.block_index.specs.declared.update.BlockUpdate.TheVariants.{Patch, CutTo}
use Rattle.block_index.specs.Updates.{means}

-- a message for a block index, and messages, the oldest first
abbrev pub Message : Type 0
Message = Msg BlockUpdate (List ℕ)

abbrev pub Messages : Type 0
Messages = List Message

-- the block at each key after messages
abbrev pub after : Messages → Blocks → Blocks
after msgs d k = effects means msgs k (d k)

-- ---- a write

-- the patch of block i of p in a write of w at off: the slice of w in the block
abbrev pub patch_of : Path → ℕ → List ℕ → ℕ → Message
patch_of p off w i = Edit (block_key p i) (Patch (record { off = off - 4096 * i; bytes = piece off w i }))

-- how many blocks a write of w at off touches, if w is not empty
abbrev pub touched : ℕ → List ℕ → ℕ
touched off w = (off + length w - 1) / 4096 + 1 - off / 4096

-- the messages of a write of w at off: one patch for each block that it touches
abbrev pub patches : Path → ℕ → List ℕ → Messages
patches p off w = map (patch_of p off w) (range_with_len (off / 4096) (touched off w))

-- whatever the blocks are, the messages change block i of p by change i, and nothing else
abbrev pub Changes : (ℕ → Option (List ℕ) → Option (List ℕ)) → Path → Messages → Type 0
Changes apply_in_place p msgs = (d : Blocks) → BlocksChange apply_in_place p d (after msgs d)

-- ---- a cut

-- the messages of a cut to n bytes: the cut of the block of the new end, if the end is inside it, and a range-delete of
-- all later blocks
abbrev pub cuts : Path → ℕ → Messages
cuts p n = if nat_eq (n % 4096) 0 then DelRange (blocks_from p (n / 4096)) ∷ [] else Edit (block_key p (n / 4096)) (CutTo (n % 4096)) ∷ DelRange (blocks_from p (n / 4096 + 1)) ∷ []

-- if the blocks are those of a tree, the messages cut the blocks of p to n bytes, and change nothing else
abbrev pub CutsWhereMeant : ℕ → Path → Messages → Type 0
CutsWhereMeant n p msgs = (t : Tree) (d : Blocks) → BlocksMean t d → BlocksChange (cut_block n) p d (after msgs d)
