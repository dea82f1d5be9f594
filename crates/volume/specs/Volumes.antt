-- Volumes as contracts see them, and the worlds to which they abstract.
use Rattle.std.specs.Prelude.{◌≡◌, ℕ, ◌≤◌, ◌↔◌, List, Option, Some, None, IsSome, Contains, ⊤}
use Rattle.std.specs.BTreeMap.{BTreeMap}
use Rattle.std.specs.FinMap as finite
use Rattle.std.specs.List.Sorted.{IsStrictlySortedBy}
use Rattle.call_compiler.specs.Compiled.{MeanTree}
use Rattle.node.specs.declared.shape.Shape.{Shape}
use Rattle.pathkey.specs.Order.{by_bytes}
use Rattle.reference.specs.Tree.{Tree, Dir, nothing, moment}
use Rattle.reference.specs.Worlds.{World}
use Rattle.volume.specs.Marked.{PMarks, PLive, Stands, no_marks}
use Rattle.volume.specs.declared.fs_root.FsRoot.{FsRoot}

-- indexes under names, each with the mtime of its root
abbrev pub Kept : Type 0
Kept = finite.FinMap by_bytes FsRoot

-- a volume: its live indexes and those of each named snapshot, with the mtimes of their roots, and the marks of the jobs taken from
-- the live ones
pub record PVolume : Type 0 where
  pub live : FsRoot
  pub snapshots : Kept
  pub marks : PMarks

-- the live indexes with their marks
abbrev pub live_of : PVolume → PLive
live_of v = record { indexes = v.live.indexes; marks = v.marks }

-- the entries of a map, as a finite map
abbrev pub snapshot_root : BTreeMap (List ℕ) FsRoot → Kept
snapshot_root m = finite.from_entries m.entries

-- its names, one after the other
abbrev pub names_in : Kept → List (List ℕ)
names_in m = finite.keys m

-- these are exactly the names in the map, sorted by bytes, so none occurs twice
pub record AreNames (m : Kept) (names : List (List ℕ)) : Type 0 where
  pub rising : IsStrictlySortedBy by_bytes names
  pub all : (s : List ℕ) → IsSome (finite.get m s) ↔ Contains names s

-- the indexes abstract to the directory tree, and the mtime is that of its root
pub record MeanRooted (r : FsRoot) (t : Tree) : Type 0 where
  pub indexes : MeanTree r.indexes t
  pub root : moment t ≡ r.modified

-- they abstract to some directory tree
pub record MeanSome (r : FsRoot) : Type 0 where
  pub tree : Tree
  pub means : MeanRooted r tree

-- neither is there, or both are and R holds of them
abbrev pub Both : {A B : Type 0} → (A → B → Type 0) → Option A → Option B → Type 0
Both R None None = ⊤
Both R None (Some b) = ⊥
Both R (Some a) None = ⊥
Both R (Some a) (Some b) = R a b

-- two maps have the same names, and R holds of what they have under each
abbrev pub Alike : {A B : Type 0} → (A → B → Type 0) → finite.FinMap by_bytes A → finite.FinMap by_bytes B → Type 0
Alike R m n = (s : List ℕ) → Both R (finite.get m s) (finite.get n s)

-- the volume abstracts to the world: its live indexes to the live tree, and its snapshots to the world's snapshots of
-- the same names, with no others
pub record Means (v : PVolume) (w : World) : Type 0 where
  pub live : MeanRooted v.live w.live
  pub snapshots : Alike MeanRooted v.snapshots w.snapshots

-- the most named snapshots
abbrev pub most_snapshots : ℕ
most_snapshots = 64

-- the invariant of volumes: a volume abstracts to a world, has at most 64 snapshots, its live trees are lawful, and each of
-- its marks, of which there are at most 64, has a slot of its own in a live root
pub record IsVolume (v : PVolume) : Type 0 where
  pub world : World
  pub means : Means v world
  pub few : finite.len v.snapshots ≤ most_snapshots
  pub stands : Stands (live_of v)

-- the world of the empty root directory with mtime 0, without snapshots
abbrev pub empty_world : World
empty_world = record { live = Dir 0 nothing; snapshots = finite.empty }

-- a new volume of the shape: it abstracts to the empty root directory with mtime 0, without snapshots, and no job was
-- taken
pub record IsNew (shape : Shape) (v : PVolume) : Type 0 where
  pub meta_shape : v.live.indexes.meta.tree.shape ≡ shape
  pub block_shape : v.live.indexes.block.tree.shape ≡ shape
  pub means : Means v empty_world
  pub marks : v.marks ≡ no_marks 0
