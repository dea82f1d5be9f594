use Rattle.std.proofs.Common.{length}
use Rattle.pathkey.proofs.ComponentFacts.{Decides}
use Rattle.pathkey.proofs.components.check_components.Given as goal

abbrev pub invariant-loop-component : goal.invariant-loop-component
invariant-loop-component l = Decides l.separator l.bytes l.rest l.has_long

abbrev pub decreases-loop-component : goal.decreases-loop-component
decreases-loop-component l = length l.rest
