use Rattle.std.proofs.Common.{◌≡◌}
use Rattle.engine.specs.Ends.{AllAgree}
use Rattle.engine.proofs.engine.assert_all_prefixes.Given as goal

abbrev pub invariant-loop-client : goal.invariant-loop-client
invariant-loop-client g l = (l.state ≡ l.initial.state) × AllAgree l.initial.state l.yielded
