use Rattle.call_compiler.proofs.OnFiles.{growth_reported}
use Rattle.call_compiler.proofs.laws.growths.Goals as goal

pub returns : goal.returns
returns c = growth_reported
