-- The edits that make one tree of another: entries go, the lower ones first; then others come or change, in the order of their paths; then
-- blocks get their bytes.
use Rattle.std.specs.Prelude.{◌≡◌, ◌≢◌, ◌⊎◌, ◌<◌, ◌*◌, ℕ, nat_lt, cond, List, [], ◌∷◌, ◌++◌, length, map, replicate, Option, Some, None, All, Contains}
use Rattle.std.specs.List.Sorted.{IsStrictlySortedBy}
use Rattle.pathkey.specs.Keys.{Key, block_key, enc}
use Rattle.pathkey.specs.Names.{IsPath}
use Rattle.pathkey.specs.Order.{by_bytes}
use Rattle.reference.specs.Calls.{bytes_of}
use Rattle.reference.specs.Image.{trimmed}
use Rattle.reference.specs.Indexes.{meta_of, most_blocks}
use Rattle.reference.specs.Reads.{Bytes, Seen, Sight, sight}
use Rattle.reference.specs.Tree.{Path, Tree, entry_at, sized}
use Rattle.reference.specs.declared.reply.Meta.{Meta}
use Rattle.reference.specs.declared.reply.Meta.TheVariants.{Dir as DirMeta, File as FileMeta}
use Rattle.edits.specs.Edits.{block_at, block_digest}
use Rattle.edits.specs.declared.edit.Change.{Change}
use Rattle.edits.specs.declared.edit.Change.TheVariants.{Remove, Add, Alter, Block}
use Rattle.edits.specs.declared.edit.Edit.{Edit}

-- ---- entries

-- an entry goes if none comes, or one of the other kind
abbrev pub removal : Option Meta → Option Meta → Option Change
removal (Some m) None = Some (Remove m)
removal (Some (DirMeta at)) (Some (FileMeta n date)) = Some (Remove (DirMeta at))
removal (Some (FileMeta n at)) (Some (DirMeta date)) = Some (Remove (FileMeta n at))
removal _ _ = None

-- an entry comes, or changes if one of its kind is there
abbrev pub arrival : Option Meta → Option Meta → Option Change
arrival m None = None
arrival (Some (DirMeta at)) (Some (DirMeta date)) = Some (Alter (DirMeta at) (DirMeta date))
arrival (Some (FileMeta n at)) (Some (FileMeta l date)) = Some (Alter (FileMeta n at) (FileMeta l date))
arrival m (Some new) = Some (Add new)

-- the edit at a path, if there is one
abbrev pub edit_of : Path → Option Change → List Edit
edit_of p None = []
edit_of p (Some c) = record { path = p; change = c } ∷ []

abbrev pub removals : Tree → Tree → List Path → List Edit
removals t u [] = []
removals t u (p ∷ ps) = removals t u ps ++ edit_of p (removal (meta_of (sight t p)) (meta_of (sight u p)))

abbrev pub arrivals : Tree → Tree → List Path → List Edit
arrivals t u [] = []
arrivals t u (p ∷ ps) = edit_of p (arrival (meta_of (sight t p)) (meta_of (sight u p))) ++ arrivals t u ps

-- ---- blocks

-- the bytes of a file before its blocks are rewritten: those of the old file, cut or extended with zeros to n, if there is one
abbrev pub resized : Option Sight → ℕ → List ℕ
resized (Some (Seen (Bytes b) at)) n = sized b n
resized s n = replicate n 0

-- block i of a file with the new bytes
abbrev pub rewrite : Option Sight → ℕ → List ℕ → Change
rewrite s i new = Block i (block_digest (block_at i (resized s (length new)))) (trimmed (block_at i new))

-- the edit of a block, if it is in the new file
abbrev pub block_change : Option Sight → Option Sight → ℕ → Option Change
block_change s (Some (Seen (Bytes new) at)) i = cond (nat_lt (4096 * i) (length new)) (Some (rewrite s i new)) None
block_change s _ i = None

abbrev pub rewrites : Tree → Tree → List (Path × ℕ) → List Edit
rewrites t u [] = []
rewrites t u (b ∷ bs) = edit_of b.0 (block_change (sight t b.0) (sight u b.0) b.1) ++ rewrites t u bs

-- ---- both

-- all edits, for the paths at which entries differ and the blocks that do
abbrev pub edits_between : Tree → Tree → List Path → List (Path × ℕ) → List Edit
edits_between t u ps bs = removals t u ps ++ (arrivals t u ps ++ rewrites t u bs)

-- at exactly these paths the trees have entries with different metadata, and their keys rise
pub record AreEntriesBetween (t u : Tree) (ps : List Path) : Type 0 where
  pub paths : All IsPath ps
  pub differ : (p : Path) → Contains ps p → meta_of (sight t p) ≢ meta_of (sight u p)
  pub all : (p : Path) → IsPath p → Contains ps p ⊎ (meta_of (sight t p) ≡ meta_of (sight u p))
  pub rising : IsStrictlySortedBy by_bytes (map enc ps)

-- the key of a block
abbrev pub key_of : Path × ℕ → Key
key_of b = block_key b.0 b.1

-- the bytes of a block of a tree, without zeros at the end; none if there is no such file, or if it ends before the block
abbrev pub trimmed_block : Tree → Path × ℕ → List ℕ
trimmed_block t b = trimmed (block_at b.1 (bytes_of (entry_at t b.0)))

-- at exactly these blocks the trees have different bytes, up to zeros at the end, and their keys rise
pub record AreBlocksBetween (t u : Tree) (bs : List (Path × ℕ)) : Type 0 where
  pub paths : (b : Path × ℕ) → Contains bs b → IsPath b.0 × (b.1 < most_blocks)
  pub differ : (b : Path × ℕ) → Contains bs b → trimmed_block t b ≢ trimmed_block u b
  pub all : (p : Path) (i : ℕ) → IsPath p → i < most_blocks → Contains bs (p, i) ⊎ (trimmed_block t (p, i) ≡ trimmed_block u (p, i))
  pub rising : IsStrictlySortedBy by_bytes (map key_of bs)
