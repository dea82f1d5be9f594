use Rattle.call_compiler.proofs.RootMoment.{root_moment}
use Rattle.call_compiler.proofs.laws.root_mtimes.Goals as goal

pub returns : goal.returns
returns c = root_moment
