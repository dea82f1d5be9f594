use Rattle.reference.proofs.Edits.{sight_law, touched_law}
use Rattle.reference.proofs.Rising.{rising-with, rising-without}
use Rattle.reference.proofs.laws.trees.edits.Goals as goal

pub returns-clause-seen : goal.returns-clause-seen
returns-clause-seen c = λ t p o q. sight_law p t o q

pub returns-clause-touched : goal.returns-clause-touched
returns-clause-touched c = λ at t p q. touched_law at p t q

pub returns-clause-put : goal.returns-clause-put
returns-clause-put c = rising-with

pub returns-clause-out : goal.returns-clause-out
returns-clause-out c = rising-without
