use Rattle.pathkey.proofs.PathFacts.{append_from_under, under_from_append}
use Rattle.pathkey.proofs.laws.under.Goals as goal

pub returns : goal.returns
returns c = λ p q. (append_from_under p q, λ below. under_from_append p q below.0 below.1)
