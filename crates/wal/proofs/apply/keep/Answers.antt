use Rattle.std.proofs.Common.{refl, sym, subst}
use Rattle.wal.specs.declared.wal_entry.WalEntry.TheVariants.{Keep}
use Rattle.wal.specs.declared.wal_entry.SnapshotCall.{SnapshotCall}
use Rattle.wal.specs.declared.wal_entry.SnapshotCall.TheVariants.{Snapshot, Remove, Restore}
use Rattle.reference.specs.Worlds.{DropSnapshot, RestoreSnapshot, Settled, TakeSnapshot}
use Rattle.wal.specs.Runs.{Makes}
use Rattle.wal.proofs.Making.{answers_from, settled_makes}
use Rattle.wal.proofs.apply.keep.Goals as goal

pub returns-in-Snapshot : goal.returns-in-Snapshot
returns-in-Snapshot c =
    subst (λ (k : SnapshotCall). Makes (Keep k c.args.name.now) c.snapshot.result c.args.volume.now c.snapshot.new.self) (sym c.in-Snapshot.is)
    (settled_makes (Keep Snapshot c.args.name.now) c.snapshot.result c.args.volume.now c.snapshot.new.self
    (answers_from (Keep Snapshot c.args.name.now) (λ w. TakeSnapshot c.args.name.now) (Settled c.snapshot.result) c.args.volume.now c.snapshot.new.self (λ w. refl) c.snapshot.ensures.leads) c.snapshot.ensures.refused)

pub returns-in-Remove : goal.returns-in-Remove
returns-in-Remove c =
    subst (λ (k : SnapshotCall). Makes (Keep k c.args.name.now) c.drop_snapshot.result c.args.volume.now c.drop_snapshot.new.self) (sym c.in-Remove.is)
    (settled_makes (Keep Remove c.args.name.now) c.drop_snapshot.result c.args.volume.now c.drop_snapshot.new.self
    (answers_from (Keep Remove c.args.name.now) (λ w. DropSnapshot c.args.name.now) (Settled c.drop_snapshot.result) c.args.volume.now c.drop_snapshot.new.self (λ w. refl) c.drop_snapshot.ensures.leads) c.drop_snapshot.ensures.refused)

pub returns-in-Restore : goal.returns-in-Restore
returns-in-Restore c =
    subst (λ (k : SnapshotCall). Makes (Keep k c.args.name.now) c.restore.result c.args.volume.now c.restore.new.self) (sym c.in-Restore.is)
    (settled_makes (Keep Restore c.args.name.now) c.restore.result c.args.volume.now c.restore.new.self
    (answers_from (Keep Restore c.args.name.now) (λ w. RestoreSnapshot c.args.name.now) (Settled c.restore.result) c.args.volume.now c.restore.new.self (λ w. refl) c.restore.ensures.leads) c.restore.ensures.refused)
