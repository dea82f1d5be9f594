use Rattle.wal.proofs.Splitting.{split_law}
use Rattle.wal.proofs.laws.split.Goals as goal

pub returns : goal.returns
returns c = split_law
