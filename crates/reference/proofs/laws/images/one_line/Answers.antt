use Rattle.reference.proofs.LinesCut.{beginning_law}
use Rattle.reference.proofs.LinesRead.{lines_injective, one_version}
use Rattle.reference.proofs.laws.images.one_line.Goals as goal

pub returns-clause-version : goal.returns-clause-version
returns-clause-version c = one_version

pub returns-clause-known : goal.returns-clause-known
returns-clause-known c = lines_injective

pub returns-clause-beginnings : goal.returns-clause-beginnings
returns-clause-beginnings c = beginning_law
