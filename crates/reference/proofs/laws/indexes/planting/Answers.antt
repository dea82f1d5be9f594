use Rattle.reference.proofs.Planting.{plant_law}
use Rattle.reference.proofs.laws.indexes.planting.Goals as goal

pub returns : goal.returns
returns c = plant_law
