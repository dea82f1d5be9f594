use Rattle.wal.proofs.Logs.{cut, first_ones}
use Rattle.wal.proofs.laws.cut_anywhere.Goals as goal

pub returns-clause-counts : goal.returns-clause-counts
returns-clause-counts c = cut

pub returns-clause-first : goal.returns-clause-first
returns-clause-first c = first_ones
