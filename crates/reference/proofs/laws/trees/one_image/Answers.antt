use Rattle.reference.proofs.OneImage.{one_image, reported_law}
use Rattle.reference.proofs.laws.trees.one_image.Goals as goal

pub returns-clause-one : goal.returns-clause-one
returns-clause-one c = one_image

pub returns-clause-reported : goal.returns-clause-reported
returns-clause-reported c = reported_law
