use Rattle.engine.proofs.Sparing.{kept-spares}
use Rattle.engine.proofs.operation.SnapshotOpOperation.execute.Goals as goal

pub returns-clause-spares : goal.returns-clause-spares
returns-clause-spares c = kept-spares _ _ _ _ _ c.snapshot.ensures
