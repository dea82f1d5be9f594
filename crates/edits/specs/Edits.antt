-- Edits: each changes what is seen of a tree at one path, if it fits what is seen there.
use Rattle.std.specs.Prelude.{◌≡◌, ◌≢◌, ◌<◌, ◌≤◌, ℕ, ◌*◌, List, [], ◌∷◌, length, replicate, take, drop, Option, Some, None, ⊤}
use Rattle.reference.specs.Image.{trimmed}
use Rattle.reference.specs.Indexes.{meta_of}
use Rattle.reference.specs.Reads.{Bytes, Directory, Seen, Sight, sight}
use Rattle.reference.specs.Shape.{IsTree}
use Rattle.reference.specs.Tree.{Path, Tree, over, sized}
use Rattle.reference.specs.declared.reply.Meta.{Meta}
use Rattle.reference.specs.declared.reply.Meta.TheVariants.{Dir as DirMeta, File as FileMeta}
use Rattle.sha2.specs.Sha256.{sha256}
use Rattle.edits.specs.declared.edit.Change.{Change}
use Rattle.edits.specs.declared.edit.Change.TheVariants.{Remove, Add, Alter, Block}
use Rattle.edits.specs.declared.edit.Edit.{Edit}

-- ---- blocks

-- block i of a file's bytes; the last one may have fewer than 4,096
abbrev pub block_at : ℕ → List ℕ → List ℕ
block_at i b = take 4096 (drop (4096 * i) b)

abbrev pub digest : List ℕ → Option (List ℕ)
digest [] = None
digest (x ∷ xs) = Some (sha256 (x ∷ xs))

-- the SHA-256 digest of the bytes of a block without zeros at the end; none if they are all zeros
abbrev pub block_digest : List ℕ → Option (List ℕ)
block_digest b = digest (trimmed b)

-- the bytes of a file, of which block i has these new ones, and zeros behind them
abbrev pub with_block : ℕ → List ℕ → List ℕ → List ℕ
with_block i new b = over b (4096 * i) (sized new (length (block_at i b)))

-- block i is a part of the file, has this digest, and has room for the new bytes
pub record FitsBlock (i : ℕ) (old : Option (List ℕ)) (new b : List ℕ) : Type 0 where
  pub inside : 4096 * i < length b
  pub few : length new ≤ length (block_at i b)
  pub same : block_digest (block_at i b) ≡ old

-- ---- an edit

-- both are directories, or both are files
abbrev pub AreOfOneKind : Meta → Meta → Type 0
AreOfOneKind (DirMeta at) (DirMeta stamp) = ⊤
AreOfOneKind (FileMeta n at) (FileMeta m stamp) = ⊤
AreOfOneKind _ _ = ⊥

-- what an edit expects to be seen at its path
abbrev pub Fits : Change → Option Sight → Type 0
Fits (Remove m) s = meta_of s ≡ Some m
Fits (Add m) s = s ≡ None
Fits (Alter m n) s = (meta_of s ≡ Some m) × AreOfOneKind m n
Fits (Block i old new) s = (b : List ℕ) × (at : ℕ) × (s ≡ Some (Seen (Bytes b) at)) × FitsBlock i old new b

-- a new entry: an empty directory, or a file of zeros
abbrev pub added : Meta → Sight
added (DirMeta at) = Seen Directory at
added (FileMeta n at) = Seen (Bytes (replicate n 0)) at

-- an entry with other metadata: a file's bytes are cut, or extended with zeros, to its new length
abbrev pub altered : Meta → Option Sight → Option Sight
altered (FileMeta n at) (Some (Seen (Bytes b) date)) = Some (Seen (Bytes (sized b n)) at)
altered m s = Some (added m)

-- a file with other bytes in one block
abbrev pub rewritten : ℕ → List ℕ → Option Sight → Option Sight
rewritten i new (Some (Seen (Bytes b) at)) = Some (Seen (Bytes (with_block i new b)) at)
rewritten i new s = s

-- what is seen at its path afterwards
abbrev pub seen_after : Change → Option Sight → Option Sight
seen_after (Remove m) s = None
seen_after (Add m) s = Some (added m)
seen_after (Alter m n) s = altered n s
seen_after (Block i old new) s = rewritten i new s

-- an edit of a tree makes this one: it fits, and at no other path anything changes, mtimes of directories included
pub record IsEdited (e : Edit) (t u : Tree) : Type 0 where
  pub tree : IsTree u
  pub fits : Fits e.change (sight t e.path)
  pub itself : sight u e.path ≡ seen_after e.change (sight t e.path)
  pub other : (p : Path) → p ≢ e.path → sight u p ≡ sight t p

-- edits, one after the other
abbrev pub AreEdited : List Edit → Tree → Tree → Type 0
AreEdited [] t u = u ≡ t
AreEdited (e ∷ es) t u = (m : Tree) × IsEdited e t m × AreEdited es m u

-- the edit makes no tree of the one that these make of t: it does not fit, or what it makes is none
pub record IsRefused (es : List Edit) (e : Edit) (t : Tree) : Type 0 where
  pub there : Tree
  pub before : AreEdited es t there
  pub none : (u : Tree) → IsEdited e there u → ⊥

-- ---- laws

-- edits make at most one tree of a tree
abbrev pub OneTreeLaw : Type 0
OneTreeLaw = (es : List Edit) (t u v : Tree) → IsTree t → AreEdited es t u → AreEdited es t v → u ≡ v

-- a path that no edit names is seen as before
abbrev pub OtherPathsLaw : Type 0
OtherPathsLaw = (es : List Edit) (t u : Tree) (p : Path) → AreEdited es t u → Unnamed p es → sight u p ≡ sight t p
  where
    Unnamed : Path → List Edit → Type 0
    Unnamed p [] = ⊤
    Unnamed p (e ∷ es) = (p ≢ e.path) × Unnamed p es
