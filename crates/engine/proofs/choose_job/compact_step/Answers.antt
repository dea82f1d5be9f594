use Rattle.std.proofs.Common.{refl}
use Rattle.engine.proofs.Sparing.{relieved-spares}
use Rattle.engine.proofs.choose_job.compact_step.Goals as goal

pub returns-in-Some-clause-relieves : goal.returns-in-Some-clause-relieves
returns-in-Some-clause-relieves c = ((λ q. let clash = c.in-Some.ensures.nothing.1 q in (cc)), (c.in-Some.relief.step, c.in-Some.ensures.busier, c.in-Some.ensures.stepped))

pub returns-in-Some-clause-spares : goal.returns-in-Some-clause-spares
returns-in-Some-clause-spares c = relieved-spares c.compact_step.result c.args.volume.now c.compact_step.new.self c.compact_step.ensures.stepped c.compact_step.ensures.unchanged

pub returns-in-None-clause-relieves : goal.returns-in-None-clause-relieves
returns-in-None-clause-relieves c = (c.in-None.ensures.nothing.0 refl, c.in-None.ensures.unchanged)

pub returns-in-None-clause-spares : goal.returns-in-None-clause-spares
returns-in-None-clause-spares c = relieved-spares c.compact_step.result c.args.volume.now c.compact_step.new.self c.compact_step.ensures.stepped c.compact_step.ensures.unchanged
