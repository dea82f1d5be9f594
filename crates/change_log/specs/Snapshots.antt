-- What was touched in each index since each snapshot was taken.
use Rattle.std.specs.Prelude.{◌≡◌, ◌⊎◌, ℕ, Bool, true, false, not, List, [], ◌∷◌, ◌++◌, map}
use Rattle.std.specs.List.{AllByRecursion, filter, Contains}
use Rattle.message.specs.declared.msg.Msg.{Msg}
use Rattle.pathkey.specs.Keys.{Key}
use Rattle.pathkey.specs.Order.{same}
use Rattle.change_log.specs.KeyLogs.{IsPast, earlier, since, touched_of}
use Rattle.change_log.specs.Touched.{Touched, is_touched, untouched, with_msgs}
use Rattle.change_log.specs.declared.change_log.SnapshotPosition.{SnapshotPosition}
use Rattle.change_log.specs.declared.key_log.LogPosition.{LogPosition}
use Rattle.change_log.specs.declared.touched_keys.Changes.{Changes}
use Rattle.change_log.specs.declared.touched_keys.Changes.TheVariants.{All, Within}

-- what was touched in both indexes since the snapshot of that name was taken
pub record Since : Type 0 where
  pub name : List ℕ
  pub meta : Touched
  pub block : Touched

-- what the log has since the position of a snapshot
abbrev pub since_position : Touched → Touched → SnapshotPosition → Since
since_position meta block p = record { name = p.name; meta = since p.meta meta; block = since p.block block }

-- each position is one at which the log was
abbrev pub ArePast : Touched → Touched → List SnapshotPosition → Type 0
ArePast meta block ps = AllByRecursion (λ p. IsPast meta p.meta × IsPast block p.block) ps

-- nothing since the snapshot of that name
abbrev pub nothing_since : List ℕ → Since
nothing_since s = record { name = s; meta = untouched; block = untouched }

-- what messages to both indexes touch is added
abbrev pub with_batch : {U V W X : Type 0} → List (Msg U V) → List (Msg W X) → Since → Since
with_batch ms ns s = record { name = s.name; meta = with_msgs ms s.meta; block = with_msgs ns s.block }

-- what messages touch was added since each snapshot, or no snapshot is known any more
abbrev pub Notes : {U V W X : Type 0} → List (Msg U V) → List (Msg W X) → List Since → List Since → Type 0
Notes ms ns old new = (new ≡ map (λ s. with_batch ms ns s) old) ⊎ (new ≡ [])

-- the snapshots of other names
abbrev pub without : List ℕ → List Since → List Since
without name log = filter (λ s. not (same s.name name)) log

-- a position that is later than these is moved to them
abbrev pub lowered : LogPosition → LogPosition → SnapshotPosition → SnapshotPosition
lowered meta block p = record { name = p.name; meta = earlier p.meta meta; block = earlier p.block block }

-- these are the positions of a snapshot of that name
abbrev pub IsPositionOf : List ℕ → LogPosition → LogPosition → List SnapshotPosition → Type 0
IsPositionOf name meta block ps = (p : SnapshotPosition) × Contains ps p × (p.name ≡ name) × (p.meta ≡ meta) × (p.block ≡ block)

-- s was touched wherever one of two others was
pub record IsBoth (s one other : Since) : Type 0 where
  pub meta : (k : Key) → is_touched s.meta k ≡ false → (is_touched one.meta k ≡ false) × (is_touched other.meta k ≡ false)
  pub block : (k : Key) → is_touched s.block k ≡ false → (is_touched one.block k ≡ false) × (is_touched other.block k ≡ false)

-- a snapshot that was known before; what was touched since the one of that name counts as touched since this one too
pub record IsRestored (name : List ℕ) (old : List Since) (s : Since) : Type 0 where
  pub before : Since
  pub base : Since
  pub known : Contains old before
  pub base_known : Contains old base
  pub same : before.name ≡ s.name
  pub base_same : base.name ≡ name
  pub both : IsBoth s before base

-- the live tree became that of the snapshot of that name
abbrev pub Restores : List ℕ → List Since → List Since → Type 0
Restores name old new = AllByRecursion (IsRestored name old) new

-- whether the value of a key may differ in the metadata
abbrev pub may_differ_meta : Changes → Key → Bool
may_differ_meta All k = true
may_differ_meta (Within meta block) k = is_touched (touched_of meta) k

-- and in the blocks
abbrev pub may_differ_block : Changes → Key → Bool
may_differ_block All k = true
may_differ_block (Within meta block) k = is_touched (touched_of block) k

-- the answer has each key that was touched since
pub record Covers (c : Changes) (s : Since) : Type 0 where
  pub meta : (k : Key) → may_differ_meta c k ≡ false → is_touched s.meta k ≡ false
  pub block : (k : Key) → may_differ_block c k ≡ false → is_touched s.block k ≡ false

-- all keys, or those that were touched since a snapshot of that name
abbrev pub AnswersSince : List ℕ → Changes → List Since → Type 0
AnswersSince name c log = (c ≡ All) ⊎ ((s : Since) × Contains log s × (s.name ≡ name) × Covers c s)
