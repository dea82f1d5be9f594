use Rattle.reference.proofs.FreshIndexes.{fresh_law}
use Rattle.reference.proofs.laws.indexes.fresh_indexes.Goals as goal

pub returns : goal.returns
returns c = fresh_law
