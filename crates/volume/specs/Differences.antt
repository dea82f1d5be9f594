-- What may differ between a snapshot and the live tree.
use Rattle.std.specs.Prelude.{◌≡◌, Bool, false, List, Some}
use Rattle.std.specs.FinMap as finite
use Rattle.std.specs.List.{AllByRecursion}
use Rattle.block_index.specs.Means.{blocks}
use Rattle.call_compiler.specs.declared.indexes.Indexes.{Indexes}
use Rattle.change_log.specs.Snapshots.{Since, may_differ_block, may_differ_meta}
use Rattle.change_log.specs.Touched.{is_touched}
use Rattle.change_log.specs.declared.touched_keys.Changes.{Changes}
use Rattle.meta_index.specs.Means.{metadata}
use Rattle.pathkey.specs.Keys.{Key}
use Rattle.volume.specs.Volumes.{Kept}
use Rattle.volume.specs.declared.fs_root.FsRoot.{FsRoot}

-- each key outside of both sets has in both indexes the same value
pub record AgreeOutside (in_meta in_block : Key → Bool) (i j : Indexes) : Type 0 where
  pub meta : (k : Key) → in_meta k ≡ false → metadata j.meta k ≡ metadata i.meta k
  pub block : (k : Key) → in_block k ≡ false → blocks j.block k ≡ blocks i.block k

-- the same of what was answered
abbrev pub AgreeBeside : Changes → Indexes → Indexes → Type 0
AgreeBeside c i j = AgreeOutside (may_differ_meta c) (may_differ_block c) i j

-- there is a snapshot of that name, and it and the live indexes differ only at what was touched since
pub record IsTracked (kept : Kept) (live : Indexes) (s : Since) : Type 0 where
  pub root : FsRoot
  pub there : finite.get kept s.name ≡ Some root
  pub agree : AgreeOutside (is_touched s.meta) (is_touched s.block) root.indexes live

-- this holds of each snapshot that the log knows
abbrev pub Tracks : List Since → Kept → Indexes → Type 0
Tracks log kept live = AllByRecursion (IsTracked kept live) log
