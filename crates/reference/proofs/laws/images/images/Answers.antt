use Rattle.reference.proofs.TreeLines.{image_law}
use Rattle.reference.proofs.laws.images.images.Goals as goal

pub returns : goal.returns
returns c = image_law
