use Rattle.engine.proofs.Sparing.{restored-spares}
use Rattle.engine.proofs.operation.RestoreOpOperation.execute.Goals as goal

pub returns-clause-spares : goal.returns-clause-spares
returns-clause-spares c = restored-spares _ _ _ _ _ c.restore.ensures
