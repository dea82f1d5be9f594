use Rattle.std.proofs.Common.{is_ok, sym, subst}
use Rattle.tree_tests.specs.Held.{AreHeld}
use Rattle.tree_tests.proofs.Holding.{held_pushed}
use Rattle.tree_tests.proofs.takings.keep.Goals as goal

pub returns : goal.returns
returns g c = subst (AreHeld g.U.Update.means c.args.bench.now.marked) (sym c.push_back.ensures.items) (held_pushed g.U.Update.means c.args.bench.now.marked c.args.bench.now.jobs.items c.args.job (is_ok c.push_back.result) c.requires.held c.requires.job)
