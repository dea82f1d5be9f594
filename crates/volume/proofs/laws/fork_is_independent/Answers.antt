use Rattle.volume.proofs.Forking.{fork_is_independent}
use Rattle.volume.proofs.laws.fork_is_independent.Goals as goal

pub returns : goal.returns
returns c = fork_is_independent
