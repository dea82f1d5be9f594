use Rattle.engine.proofs.Sparing.{called-spares}
use Rattle.engine.proofs.path_ops.PathOpOperation.execute.Goals as goal

pub returns-clause-spares : goal.returns-clause-spares
returns-clause-spares c = called-spares _ _ _ _ _ c.path_call.ensures
