use Rattle.std.proofs.Common.{◌≡◌, take}
use Rattle.engine.specs.Ends.{times_in}
use Rattle.engine.proofs.engine.has_number.Given as goal

abbrev pub invariant-loop-client : goal.invariant-loop-client
invariant-loop-client g l = times_in l.number (take l.client-index l.clients) ≡ 0
