use Rattle.attributes.proofs.PlaceFacts.{not_below}
use Rattle.attributes.proofs.laws.apart.Goals as goal

pub returns-clause-records : goal.returns-clause-records
returns-clause-records c = λ p q r e. not_below p q r (cc)
