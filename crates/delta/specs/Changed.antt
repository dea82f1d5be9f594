-- The keys at which two indexes differ, and the paths at which two trees do.
use Rattle.std.specs.Prelude.{◌≡◌, ◌≢◌, ◌⊎◌, ◌||◌, ◌<◌, ◌-◌, ℕ, Bool, true, List, ◌++◌, length, map, take, Option, None, Some, AllPairs}
use Rattle.std.specs.List.{Contains}
use Rattle.block_index.specs.Means.{blocks as blocks_of}
use Rattle.call_compiler.specs.declared.indexes.Indexes.{Indexes}
use Rattle.change_log.specs.KeyLogs.{touched_of}
use Rattle.change_log.specs.Touched.{is_touched}
use Rattle.change_log.specs.declared.touched_keys.TouchedKeys.{TouchedKeys}
use Rattle.message.specs.Ranges.{before}
use Rattle.pathkey.specs.Keys.{Key, block_key, enc, is_in}
use Rattle.pathkey.specs.Names.{IsPath}
use Rattle.pathkey.specs.declared.range.KeyRange.{KeyRange}
use Rattle.meta_index.specs.Means.{metadata}
use Rattle.reference.specs.Image.{Text, trimmed}
use Rattle.reference.specs.Indexes.{held, most_blocks}
use Rattle.reference.specs.Reads.{sight}
use Rattle.reference.specs.Tree.{Path, Tree}
use Rattle.reference.specs.Shape.{IsTree}
use Rattle.reference.specs.Worlds.{World}
use Rattle.volume.specs.Volumes.{Means, PVolume}
use Rattle.edits.specs.Applies.{Applied}
use Rattle.edits.specs.Between.{AreBlocksBetween, AreEntriesBetween, edits_between, key_of}
use Rattle.edits.specs.Edits.{AreEdited}
use Rattle.edits.specs.Lines.{AreEdits}
use Rattle.edits.specs.declared.edit.Edit.{Edit}

-- ---- keys

module _ {V : Type 0} (alike : Option V → Option V → Type 0) (f g : Key → Option V) where
  -- the values at a key are alike, or there is none
  abbrev pub IsSameAt : Key → Type 0
  IsSameAt k = alike (f k) (g k) ⊎ ((f k ≡ None) × (g k ≡ None))

  -- at each of these keys the values differ, and of the keys within a set they are all
  pub record AreDiffering (within : Key → Bool) (ks : List Key) : Type 0 where
    pub differ : (k : Key) → Contains ks k → alike (f k) (g k) → ⊥
    pub all : (k : Key) → within k ≡ true → Contains ks k ⊎ IsSameAt k

  -- these keys were added
  abbrev pub Adds : (Key → Bool) → List Key → List Key → Type 0
  Adds within old new = (ks : List Key) × (new ≡ old ++ ks) × AreDiffering within ks

  -- those were added that are in a range and have a value in a third index
  pub record AreStored (h : Key → Option V) (range : KeyRange) (ks : List Key) : Type 0 where
    pub differ : (k : Key) → Contains ks k → alike (f k) (g k) → ⊥
    pub all : (k : Key) (v : V) → is_in range k ≡ true → h k ≡ Some v → Contains ks k ⊎ IsSameAt k

  abbrev pub AddsStored : (Key → Option V) → KeyRange → List Key → List Key → Type 0
  AddsStored h range old new = (ks : List Key) × (new ≡ old ++ ks) × AreStored h range ks

-- ---- paths

-- the key of a file, without what the key of its block has behind it
abbrev pub file_key : Key → Key
file_key k = take (length k - 5) k

-- the keys of one of two lists
abbrev pub is_in_either : TouchedKeys → TouchedKeys → Key → Bool
is_in_either a b k = is_touched (touched_of a) k || is_touched (touched_of b) k

-- the blocks are alike up to zeros at the end; a missing one has no bytes
abbrev pub AreAlikeBlocks : Option (List ℕ) → Option (List ℕ) → Type 0
AreAlikeBlocks b c = trimmed (held b) ≡ trimmed (held c)

-- at exactly these keys the metadata of two indexes differ
abbrev pub AreMetasDiffering : Indexes → Indexes → List Key → Type 0
AreMetasDiffering i j ks = AreDiffering (λ m n. m ≡ n) (metadata i.meta) (metadata j.meta) (λ k. true) ks

-- at exactly these keys their blocks do
abbrev pub AreBlocksDiffering : Indexes → Indexes → List Key → Type 0
AreBlocksDiffering i j ks = AreDiffering AreAlikeBlocks (blocks_of i.block) (blocks_of j.block) (λ k. true) ks

-- each key of one of two lists is in the other
pub record HaveSame (xs ys : List Key) : Type 0 where
  pub to : (k : Key) → Contains xs k → Contains ys k
  pub from : (k : Key) → Contains ys k → Contains xs k

-- the key of a block of a file
pub record IsBlockKey (k : Key) : Type 0 where
  pub path : Path
  pub index : ℕ
  pub is_path : IsPath path
  pub few : index < most_blocks
  pub key : k ≡ block_key path index

-- the blocks with these keys
pub record AreFound (ks : List Key) (bs : List (Path × ℕ)) : Type 0 where
  pub blocks : (b : Path × ℕ) → Contains bs b → IsPath b.0 × (b.1 < most_blocks)
  pub keys : map key_of bs ≡ ks

-- at each of these paths the trees have different entries (an entry is a directory, or a file with its bytes, and its mtime), at
-- no other path do they, and the paths are in the order of keys, none twice
pub record AreChanged (t u : Tree) (ps : List Path) : Type 0 where
  pub differ : (p : Path) → Contains ps p → sight t p ≢ sight u p
  pub all : (p : Path) → IsPath p → Contains ps p ⊎ (sight t p ≡ sight u p)
  pub rising : AllPairs (λ p q. before (enc p) (enc q) ≡ true) ps

-- ---- the edits between trees

-- the text has edits that make the second tree of the first
abbrev pub EditsMake : Text → Tree → Tree → Type 0
EditsMake text t u = (es : List Edit) × AreEdits text es × AreEdited es t u

-- the text has the edits between the trees: those for exactly the paths at which their entries differ, and exactly the blocks that do; and
-- they make the second tree of the first
pub record PrintsEdits (text : Text) (t u : Tree) : Type 0 where
  pub paths : List Path
  pub blocks : List (Path × ℕ)
  pub entries : AreEntriesBetween t u paths
  pub differing : AreBlocksBetween t u blocks
  pub are : AreEdits text (edits_between t u paths blocks)
  pub make : AreEdited (edits_between t u paths blocks) t u

-- there is one such text
abbrev pub OneTextLaw : Type 0
OneTextLaw = (text other : Text) (t u : Tree) → PrintsEdits text t u → PrintsEdits other t u → text ≡ other

-- applying edits that make one tree of another, as those that are printed of two trees do, to a volume that abstracts to the first gives
-- one that abstracts to the second, and snapshots stay
abbrev pub EditsRoundTripLaw : Type 0
EditsRoundTripLaw = (text : Text) (t u : Tree) (old new : PVolume) (w : World) → IsTree t → EditsMake text t u → Means old w → w.live ≡ t → Applied text old new → Means new (record w { live = u })
