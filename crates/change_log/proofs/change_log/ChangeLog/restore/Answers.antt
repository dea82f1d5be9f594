use Rattle.std.proofs.Common.{List, map, sym, subst}
use Rattle.change_log.specs.Snapshots.{ArePast, IsPositionOf, Restores, Since, lowered}
use Rattle.change_log.specs.declared.change_log.SnapshotPosition.{SnapshotPosition}
use Rattle.change_log.proofs.Known.{known}
use Rattle.change_log.proofs.Restoring.{lowered_items, lowered_past, restores}
use Rattle.change_log.proofs.change_log.ChangeLog.restore.Goals as goal

pub invariant_of-self : goal.invariant_of-self
invariant_of-self c =
    let i = c.self.inside in
    subst (λ (ps : List SnapshotPosition). ArePast i.meta i.block ps)
    (sym (lowered_items i.snapshots c.in-Some.meta c.in-Some.block c.as_mut_slice.result.now c.lower_all.new.snapshots c.as_mut_slice.ensures.value c.lower_all.ensures))
    (lowered_past c.in-Some.meta c.in-Some.block i.meta i.block i.snapshots.items c.self.invariant)

pub returns-in-Some : goal.returns-in-Some
returns-in-Some c =
    let i = c.self.inside in
    let name = c.args.name.now in
    let there : IsPositionOf name c.in-Some.meta c.in-Some.block i.snapshots.items = subst (λ (ps : List SnapshotPosition). IsPositionOf name c.in-Some.meta c.in-Some.block ps) c.as_slice.ensures.value c.in-Some.ensures in
    subst (λ (ps : List SnapshotPosition). Restores name c.args.self.now (known i.meta i.block ps))
    (sym (lowered_items i.snapshots c.in-Some.meta c.in-Some.block c.as_mut_slice.result.now c.lower_all.new.snapshots c.as_mut_slice.ensures.value c.lower_all.ensures))
    (subst (λ (l : List Since). Restores name l (known i.meta i.block (map (λ p. lowered c.in-Some.meta c.in-Some.block p) i.snapshots.items))) c.self.view_is
    (restores name i.meta i.block c.in-Some.meta c.in-Some.block i.snapshots.items there))
