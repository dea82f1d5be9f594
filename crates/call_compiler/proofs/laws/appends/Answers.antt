use Rattle.call_compiler.proofs.Appending.{meant_after}
use Rattle.call_compiler.proofs.laws.appends.Goals as goal

pub returns : goal.returns
returns c = meant_after
