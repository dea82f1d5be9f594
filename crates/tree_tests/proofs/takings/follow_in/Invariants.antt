use Rattle.tree_tests.specs.Held.{AreHeld}
use Rattle.tree_tests.proofs.takings.follow_in.Given as goal

abbrev pub invariant-loop-turn : goal.invariant-loop-turn
invariant-loop-turn g l = record { held : AreHeld g.U.Update.means l.bench.marked l.bench.jobs.items }
