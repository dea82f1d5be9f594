use Rattle.std.proofs.Common.{subst}
use Rattle.node.specs.Leaves.{IsEntry}
use Rattle.node.proofs.node.leaf.set.Goals as goal

pub returns-in-Ok-clause-ok : goal.returns-in-Ok-clause-ok
returns-in-Ok-clause-ok g c = c.replace.ensures c.args.key.now (subst (λ es. IsEntry es c.args.key.now c.in-Ok.i) c.as_slice.ensures.value c.in-Ok.ensures)
