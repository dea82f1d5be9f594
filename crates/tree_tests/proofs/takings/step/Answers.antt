use Rattle.std.proofs.Common.{arith}
use Rattle.tree_tests.proofs.Holding.{still_held}
use Rattle.tree_tests.proofs.takings.step.Goals as goal

pub returns : goal.returns
returns g c = still_held g.U.Update.means c.args.bench.now.marked c.step.new.self c.args.bench.now.jobs.items c.step.ensures.fits (omega (arith, c.step.ensures.given)) c.requires
