-- When two indexes mean a tree: one gives the metadata of each path's key, with the mtime, the other the bytes of each block's
-- key (full-path indexing: Jannen et al., FAST 2015).
use Rattle.std.specs.Prelude.{◌++◌, ◌≡◌, ◌⊎◌, max, ℕ, ◌+◌, ◌-◌, ◌*◌, ◌<◌, List, [], ◌∷◌, length, take, drop, Bool, cond, ◌&&◌, nat_lt, nat_le, Option, Some, None, option_map, slice_index}
use Rattle.pathkey.specs.Names.{IsPath}
use Rattle.pathkey.specs.Enc.{enc}
use Rattle.pathkey.specs.Keys.{Key, block_key, is_in, subtree}
use Rattle.pathkey.specs.declared.range.KeyRange.{KeyRange}
use Rattle.reference.specs.Tree.{Path, Tree, same, over}
use Rattle.reference.specs.Shape.{IsTree}
use Rattle.reference.specs.Reads.{Directory, Bytes, look, Sight, Seen, sight}
use Rattle.reference.specs.declared.reply.Meta.{Meta}
use Rattle.reference.specs.declared.reply.Meta.TheVariants.{Dir as DirMeta, File as FileMeta}

-- the metadata of each key; none if it has no value
abbrev pub Metadata : Type 0
Metadata = Key → Option Meta

-- the bytes of the block at each key; none if it has no value
abbrev pub Blocks : Type 0
Blocks = Key → Option (List ℕ)

-- the metadata of what is visible
abbrev pub meta_of : Option Sight → Option Meta
meta_of None = None
meta_of (Some (Seen Directory date)) = Some (DirMeta date)
meta_of (Some (Seen (Bytes b) date)) = Some (FileMeta (length b) date)

-- k is the key of a path
pub record PathOf (k : Key) : Type 0 where
  pub path : Path
  pub is_path : IsPath path
  pub key : k ≡ enc path

-- the metadata half: each path's key has the metadata of what is visible there, and no other key has a value
pub record MetaMeans (t : Tree) (m : Metadata) : Type 0 where
  pub paths : (p : Path) → IsPath p → m (enc p) ≡ meta_of (sight t p)
  pub only_paths : (k : Key) (v : Meta) → m k ≡ Some v → PathOf k

-- how many blocks of 4,096 bytes the longest file has
abbrev pub most_blocks : ℕ
most_blocks = 268435456

-- byte j of a block; zero where the block is absent or shorter
abbrev pub byte_of : Option (List ℕ) → ℕ → ℕ
byte_of None j = 0
byte_of (Some v) j = slice_index v j

-- the blocks contain the bytes of a file, and no byte at or past its end
pub record Hold (block : ℕ → Option (List ℕ)) (b : List ℕ) : Type 0 where
  pub byte : (i j : ℕ) → i < most_blocks → j < 4096 → byte_of (block i) j ≡ slice_index b (4096 * i + j)
  pub within : (i : ℕ) (v : List ℕ) (j : ℕ) → i < most_blocks → block i ≡ Some v → j < length v → (j < 4096) × (4096 * i + j < length b)

-- k is the key of a block of a file of t
pub record BlockOf (t : Tree) (k : Key) : Type 0 where
  pub path : Path
  pub index : ℕ
  pub bytes : List ℕ
  pub is_path : IsPath path
  pub file : look t path ≡ Some (Bytes bytes)
  pub few : index < most_blocks
  pub key : k ≡ block_key path index

-- the block half: each file's blocks contain its bytes, and no other key has a value
pub record BlocksMean (t : Tree) (d : Blocks) : Type 0 where
  pub blocks : (p : Path) (b : List ℕ) → IsPath p → look t p ≡ Some (Bytes b) → Hold (λ i. d (block_key p i)) b
  pub only_blocks : (k : Key) (v : List ℕ) → d k ≡ Some v → BlockOf t k

-- the two indexes mean the directory tree t
pub record IndexesMean (t : Tree) (m : Metadata) (d : Blocks) : Type 0 where
  pub tree : IsTree t
  pub meta : MetaMeans t m
  pub blocks : BlocksMean t d

-- ---- the effect of messages on an index, at each key

-- a value put at a key
abbrev pub put_at : {V : Type 0} → Key → V → (Key → Option V) → Key → Option V
put_at k v m j = cond (same k j) (Some v) (m j)

-- the value at a key deleted
abbrev pub deleted_at : {V : Type 0} → Key → (Key → Option V) → Key → Option V
deleted_at k m j = cond (same k j) None (m j)

-- the values of a range deleted
abbrev pub cleared : {V : Type 0} → KeyRange → (Key → Option V) → Key → Option V
cleared r m j = cond (is_in r j) None (m j)

-- the value at a key changed
abbrev pub edit_at : {V : Type 0} → Key → (Option V → Option V) → (Key → Option V) → Key → Option V
edit_at k f m j = cond (same k j) (f (m j)) (m j)

-- the entries at or below o moved to n, where they replace those at or below n
abbrev pub moved : {V : Type 0} → Path → Path → (Key → Option V) → Key → Option V
moved o n m k = cond (is_in (subtree n) k) (m (enc o ++ drop (length (enc n)) k)) (cond (is_in (subtree o) k) None (m k))

-- a file's length raised to n, if it is less, and its mtime set; a directory is unchanged
abbrev pub grow : ℕ → ℕ → Option Meta → Option Meta
grow n at None = None
grow n at (Some (DirMeta date)) = Some (DirMeta date)
grow n at (Some (FileMeta l date)) = Some (FileMeta (max l n) at)

-- a file's length set to n, and its mtime set; a directory is unchanged
abbrev pub set_len : ℕ → ℕ → Option Meta → Option Meta
set_len n at None = None
set_len n at (Some (DirMeta date)) = Some (DirMeta date)
set_len n at (Some (FileMeta l date)) = Some (FileMeta n at)

-- the mtime of a directory or a file set; none stays none
abbrev pub touch : ℕ → Option Meta → Option Meta
touch at None = None
touch at (Some (DirMeta date)) = Some (DirMeta at)
touch at (Some (FileMeta l date)) = Some (FileMeta l at)

-- the same at the keys of the paths, one after the other
abbrev pub touch_at : ℕ → List Path → Metadata → Metadata
touch_at at [] m = m
touch_at at (p ∷ ps) m = touch_at at ps (edit_at (enc p) (touch at) m)

-- the bytes of a block; none if it is absent
abbrev pub held : Option (List ℕ) → List ℕ
held None = []
held (Some v) = v

-- the write of w at off overlaps block i
abbrev pub touches : ℕ → List ℕ → ℕ → Bool
touches off w i = nat_lt off (4096 * i + 4096) && nat_lt (4096 * i) (off + length w)

-- the part of w in block i
abbrev pub piece : ℕ → List ℕ → ℕ → List ℕ
piece off w i = take (4096 - (off - 4096 * i)) (drop (4096 * i - off) w)

-- a block overwritten with w from off on, an absent one as one without bytes
abbrev pub overlaid : ℕ → List ℕ → Option (List ℕ) → Option (List ℕ)
overlaid off w o = Some (over (held o) off w)

-- the first n bytes of a block; an absent one stays absent
abbrev pub shortened : ℕ → Option (List ℕ) → Option (List ℕ)
shortened n o = option_map (take n) o

-- block i after the write of w at off
abbrev pub patched : ℕ → List ℕ → ℕ → Option (List ℕ) → Option (List ℕ)
patched off w i o = cond (touches off w i) (overlaid (off - 4096 * i) (piece off w i) o) o

-- block i of a file that was cut to n bytes
abbrev pub cut_block : ℕ → ℕ → Option (List ℕ) → Option (List ℕ)
cut_block n i o = cond (nat_le n (4096 * i)) None (shortened (n - 4096 * i) o)

-- the index d' is d with block i of p changed by change i, and all else as it was
pub record BlocksChange (change : ℕ → Option (List ℕ) → Option (List ℕ)) (p : Path) (d d' : Blocks) : Type 0 where
  pub block : (i : ℕ) → i < most_blocks → d' (block_key p i) ≡ change i (d (block_key p i))
  pub elsewhere : (k : Key) → ((i : ℕ) → i < most_blocks → k ≡ block_key p i → ⊥) → d' k ≡ d k
  pub only : (k : Key) (v : List ℕ) → d' k ≡ Some v → ((u : List ℕ) × (d k ≡ Some u)) ⊎ ((i : ℕ) × (i < most_blocks) × (k ≡ block_key p i))
