use Rattle.engine.proofs.Sparing.{called-spares}
use Rattle.engine.proofs.path_ops.ReadOpOperation.execute.Goals as goal

pub returns-clause-leads : goal.returns-clause-leads
returns-clause-leads c = (c.read.ensures 0).leads

pub returns-clause-spares : goal.returns-clause-spares
returns-clause-spares c = called-spares _ _ _ _ _ (c.read.ensures 0)
