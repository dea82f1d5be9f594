use Rattle.engine.proofs.Sparing.{called-spares}
use Rattle.engine.proofs.path_ops.StatOpOperation.execute.Goals as goal

pub returns-clause-leads : goal.returns-clause-leads
returns-clause-leads c = (c.stat.ensures 0).leads

pub returns-clause-spares : goal.returns-clause-spares
returns-clause-spares c = called-spares _ _ _ _ _ (c.stat.ensures 0)
