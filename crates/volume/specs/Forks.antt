-- Volumes that are made of the tree of another, and trees that take the place of a live one.
use Rattle.std.specs.Prelude.{◌≡◌, Result, IfOk, IfErr}
use Rattle.std.specs.FinMap as finite
use Rattle.reference.specs.Tree.{Tree}
use Rattle.reference.specs.Worlds.{World}
use Rattle.volume.specs.Marked.{KeepsMarks, no_marks}
use Rattle.volume.specs.Volumes.{PVolume, MeanRooted, Means, live_of}
use Rattle.volume.specs.declared.fs_root.FsRoot.{FsRoot}

-- ---- forks

-- the world of a live tree, without snapshots
abbrev pub world_of : Tree → World
world_of t = record { live = t; snapshots = finite.empty }

-- the volume has these live indexes with the mtime of their root, no snapshots and no marks, and its tickets begin with 0; so it
-- abstracts to the world of each tree to which they abstract
pub record IsForkOf (r : FsRoot) (v : PVolume) : Type 0 where
  pub is : v ≡ record { live = r; snapshots = finite.empty; marks = no_marks 0 }
  pub means : (t : Tree) → MeanRooted r t → Means v (world_of t)

-- ---- restored trees

-- other live indexes with the mtime of their root: all marks are removed, no ticket is used again, and the snapshots
-- stay
abbrev pub with_live : FsRoot → PVolume → PVolume
with_live r v = record v { live = r; marks = no_marks v.marks.given }

-- the live tree was to be replaced by another: it was, and the volume abstracts to the same worlds with that tree as the live one;
-- or nothing changed
pub record RestoresTree {E : Type 0} (r : FsRoot) (answer : Result (Unit {0}) E) (old new : PVolume) : Type 0 where
  pub done : IfOk answer (λ _. new ≡ with_live r old)
  pub means : IfOk answer (λ _. (w : World) (t : Tree) → Means old w → MeanRooted r t → Means new (record w { live = t }))
  pub refused : IfErr answer (λ _. new ≡ old)
  pub kept : KeepsMarks (live_of old) (live_of new)
