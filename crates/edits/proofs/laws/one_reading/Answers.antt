use Rattle.edits.proofs.TextFacts.{one_reading}
use Rattle.edits.proofs.laws.one_reading.Goals as goal

pub returns : goal.returns
returns c = one_reading
