use Rattle.delta.proofs.PatchingFacts.{makes_one}
use Rattle.delta.proofs.laws.one_reading.Goals as goal

pub returns : goal.returns
returns c = makes_one
