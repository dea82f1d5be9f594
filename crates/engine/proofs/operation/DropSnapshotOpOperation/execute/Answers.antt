use Rattle.engine.proofs.Sparing.{dropped-spares}
use Rattle.engine.proofs.operation.DropSnapshotOpOperation.execute.Goals as goal

pub returns-clause-spares : goal.returns-clause-spares
returns-clause-spares c = dropped-spares _ _ _ _ _ c.drop_snapshot.ensures
