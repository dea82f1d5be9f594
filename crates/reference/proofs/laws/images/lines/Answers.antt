use Rattle.reference.proofs.LinesMade.{lines_law}
use Rattle.reference.proofs.laws.images.lines.Goals as goal

pub returns : goal.returns
returns c = lines_law
