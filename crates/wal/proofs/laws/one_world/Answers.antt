use Rattle.wal.proofs.Leading.{one_world}
use Rattle.wal.proofs.laws.one_world.Goals as goal

pub returns : goal.returns
returns c = one_world
