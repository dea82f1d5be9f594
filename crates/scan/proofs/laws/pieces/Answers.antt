use Rattle.scan.proofs.ReadaheadFacts.{join_law, short_law, last_law}
use Rattle.scan.proofs.laws.pieces.Goals as goal

pub returns-clause-joined : goal.returns-clause-joined
returns-clause-joined g c = join_law

pub returns-clause-short : goal.returns-clause-short
returns-clause-short g c = short_law

pub returns-clause-last : goal.returns-clause-last
returns-clause-last g c = last_law
