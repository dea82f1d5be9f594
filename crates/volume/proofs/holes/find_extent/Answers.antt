use Rattle.std.proofs.Common.{arith, ◌≡◌, ℕ, ◌+◌, ◌*◌, ◌/◌, ◌<◌, ◌≤◌, min, max, List, subst, Option, Some, None}
use Rattle.std.specs.Prelude.{IfSome}
use Rattle.block_index.specs.Means.{blocks}
use Rattle.pathkey.specs.Keys.{block_key}
use Rattle.reference.specs.Indexes.{most_blocks}
use Rattle.volume.specs.Extents.{AreStored, IsNextStored, IsRun}
use Rattle.volume.specs.declared.fs_root.FsRoot.{FsRoot}
use Rattle.volume.proofs.Extents.{reported_none, reported_past, reported_run}
use Rattle.volume.proofs.holes.find_extent.Goals as goal

pub returns-in_default : goal.returns-in_default
returns-in_default c = reported_none c.args.walk.now c.args.path.now c.key-key.ensures.valid c.args.offset c.args.size c.requires.short
    (subst (λ (x : Option (ℕ × List ℕ)). IsNextStored (blocks c.args.walk.now.indexes.block) c.args.path.now (c.args.offset / 4096) x) c.in_default.is (c.in_ok-number.ensures.stored c.requires.file))

pub returns-then-from-size : goal.returns-then-from-size
returns-then-from-size c =
    let next : IsNextStored (blocks c.args.walk.now.indexes.block) c.args.path.now (c.args.offset / 4096) (Some (c.in-Some.number, c.in-Some.field-0-1)) =
    subst (λ (x : Option (ℕ × List ℕ)). IsNextStored (blocks c.args.walk.now.indexes.block) c.args.path.now (c.args.offset / 4096) x) c.in-Some.is (c.in_ok-number.ensures.stored c.requires.file) in
    reported_past c.args.walk.now c.args.path.now c.key-key.ensures.valid c.args.offset c.args.size c.requires.short (c.in-Some.number, c.in-Some.field-0-1) next
    (omega (arith, c.if-offset-size.false)) (omega (arith, c.if-from-size.true, c.max-from.ensures))

pub returns : goal.returns
returns c = λ t date b means file long.
    let next : IsNextStored (blocks c.args.walk.now.indexes.block) c.args.path.now (c.args.offset / 4096) (Some (c.in-Some.number, c.in-Some.field-0-1)) =
    subst (λ (x : Option (ℕ × List ℕ)). IsNextStored (blocks c.args.walk.now.indexes.block) c.args.path.now (c.args.offset / 4096) x) c.in-Some.is (c.in_ok-number.ensures.stored c.requires.file) in
    let number : (c.args.offset / 4096 ≤ c.in-Some.number) × (c.in-Some.number < most_blocks) =
    subst (λ (x : Option (ℕ × List ℕ)). IfSome x (λ y. (c.args.offset / 4096 ≤ y.0) × (y.0 < most_blocks))) c.in-Some.is c.in_ok-number.ensures.number in
    let next_extent : AreStored (blocks c.args.walk.now.indexes.block) c.args.path.now (c.in-Some.number + 1) c.in_ok-end.end =
    subst (λ (r : FsRoot). AreStored (blocks r.indexes.block) c.args.path.now (c.in-Some.number + 1) c.in_ok-end.end) c.in_ok-number.ensures.tree c.in_ok-end.ensures.stored in
    let from : max c.args.offset (4096 * c.in-Some.number) ≡ c.max-from.result = omega (arith, c.max-from.ensures) in
    let to : min c.args.size (4096 * c.in_ok-end.end) ≡ c.min.result = omega (arith, c.min.ensures) in
    subst (λ (k : ℕ). IsRun (blocks c.args.walk.now.indexes.block) c.args.path.now b c.args.offset k c.min.result) from
    (subst (λ (k : ℕ). IsRun (blocks c.args.walk.now.indexes.block) c.args.path.now b c.args.offset (max c.args.offset (4096 * c.in-Some.number)) k) to
    (reported_run c.args.walk.now c.args.path.now c.key-key.ensures.valid c.args.offset c.args.size c.requires.short (c.in-Some.number, c.in-Some.field-0-1) next c.in_ok-end.end
    number.0 (omega (arith, c.if-from-size.false, c.max-from.ensures)) c.in_ok-end.ensures.end.0 c.in_ok-end.ensures.end.1 next_extent
    (λ h. subst (λ (r : FsRoot). blocks r.indexes.block (block_key c.args.path.now c.in_ok-end.end) ≡ None) c.in_ok-number.ensures.tree (c.in_ok-end.ensures.ended h))
    t date b means file long))
