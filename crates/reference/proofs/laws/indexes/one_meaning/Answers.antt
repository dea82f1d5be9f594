use Rattle.reference.proofs.Unique.{one_meaning}
use Rattle.reference.proofs.laws.indexes.one_meaning.Goals as goal

pub returns : goal.returns
returns c = one_meaning
