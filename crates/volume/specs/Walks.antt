-- What a walk through a tree lists: its entries in key order, and the blocks of a file.
use Rattle.std.specs.Prelude.{◌≡◌, ◌≢◌, ℕ, ◌*◌, ◌^◌, ◌<◌, ◌≤◌, ◌⊎◌, true, List, [], ◌∷◌, ◌++◌, Option, Some, None, length, take, drop, replicate, map, All, AllPairs, Any, Contains}
use Rattle.message.specs.Ranges.{before, reaches}
use Rattle.pathkey.specs.Keys.{Key, block_key, enc}
use Rattle.pathkey.specs.Names.{IsPath}
use Rattle.reference.specs.Indexes.{meta_of, most_blocks}
use Rattle.reference.specs.Reads.{sight}
use Rattle.reference.specs.Tree.{Path, Tree, File, At, Found}
use Rattle.reference.specs.declared.reply.Meta.{Meta}

-- ---- entries

-- these are the metadata of the entry at the path
abbrev pub IsEntry : Tree → Path → Meta → Type 0
IsEntry t p m = meta_of (sight t p) ≡ Some m

-- the first `limit` entries of the tree from a path on, or all if there are fewer: each is in the tree at that path or after it
-- in key order, they are sorted, and none is missing unless there are `limit` before it
pub record AreEntries (t : Tree) (from : Path) (limit : ℕ) (es : List (Path × Meta)) : Type 0 where
  pub few : length es ≤ limit
  pub sound : All (λ e. (reaches (enc from) (enc e.0) ≡ true) × IsEntry t e.0 e.1) es
  pub rising : AllPairs (λ d e. before (enc d.0) (enc e.0) ≡ true) es
  pub complete : (p : Path) (m : Meta) → reaches (enc from) (enc p) ≡ true → IsEntry t p m → Contains es (p, m) ⊎ ((length es ≡ limit) × All (λ e. before (enc e.0) (enc p) ≡ true) es)

-- the entries are these pairs, each with the path that has its key
pub record ReadsPaths (ps : List (Key × Meta)) (es : List (Path × Meta)) : Type 0 where
  pub paths : All (λ e. IsPath e.0) es
  pub pairs : map (λ e. (enc e.0, e.1)) es ≡ ps

-- ---- blocks

-- the bytes of block i of a file
abbrev pub block_bytes : List ℕ → ℕ → List ℕ
block_bytes b i = take 4096 (drop (4096 * i) b)

-- block i of a file has these bytes, and after them only zeros
abbrev pub IsBlock : List ℕ → ℕ → List ℕ → Type 0
IsBlock b i v = (zeros : ℕ) × (block_bytes b i ≡ v ++ replicate zeros 0)

-- these are the first `limit` stored blocks of a file from a number on, or all if there are fewer: each has its bytes, they are
-- sorted by number, and a missing block has only zeros, or there are `limit` before it
pub record AreBlocks (b : List ℕ) (from limit : ℕ) (bs : List (ℕ × List ℕ)) : Type 0 where
  pub few : length bs ≤ limit
  pub sound : All (λ x. (from ≤ x.0) × (x.0 < most_blocks) × IsBlock b x.0 x.1) bs
  pub rising : AllPairs (λ x y. x.0 < y.0) bs
  pub complete : (i : ℕ) → from ≤ i → Any (λ x. x.0 ≡ i) bs ⊎ (IsBlock b i [] ⊎ ((length bs ≡ limit) × All (λ x. x.0 < i) bs))

-- the same for what is at a path: there is none if that is not a file
abbrev pub AreBlocksAt : At → ℕ → ℕ → List (ℕ × List ℕ) → Type 0
AreBlocksAt (Found (File date b)) from limit bs = AreBlocks b from limit bs
AreBlocksAt _ from limit bs = bs ≡ []

-- k is the key of a block of the path
abbrev pub IsOfBlock : Path → Key → Type 0
IsOfBlock p k = (i : ℕ) × (i < most_blocks) × (k ≡ block_key p i)

-- the blocks are these pairs, each with the number of the block that has its key
pub record AreNumbered (p : Path) (ps : List (Key × List ℕ)) (bs : List (ℕ × List ℕ)) : Type 0 where
  pub few : All (λ x. x.0 < most_blocks) bs
  pub pairs : map (λ x. (block_key p x.0, x.1)) bs ≡ ps

-- the same, whatever path the keys are of
pub record ReadsNumbers (ps : List (Key × List ℕ)) (bs : List (ℕ × List ℕ)) : Type 0 where
  pub of_path : (p : Path) → All (λ q. IsOfBlock p q.0) ps → AreNumbered p ps bs

-- a pair and a block: the block is the pair's, with the number in its key, if that is the path's key followed by a byte 0
abbrev pub IsOwn : Path → Option (Key × List ℕ) → Option (ℕ × List ℕ) → Type 0
IsOwn p None x = x ≡ None
IsOwn p (Some q) None = (z : Key) → q.0 ≢ enc p ++ 0 ∷ z
IsOwn p (Some q) (Some x) = ((z : Key) × (q.0 ≡ enc p ++ 0 ∷ z)) × ((r : Path) (i : ℕ) → i < 2 ^ 32 → q.0 ≡ block_key r i → x.0 ≡ i) × (x.1 ≡ q.1)
