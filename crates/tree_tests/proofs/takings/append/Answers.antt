use Rattle.std.proofs.Common.{arith}
use Rattle.tree_tests.proofs.Holding.{still_held}
use Rattle.tree_tests.proofs.takings.append.Goals as goal

pub returns-in-Ok : goal.returns-in-Ok
returns-in-Ok g c = still_held g.U.Update.means c.args.bench.now.marked c.append.new.self c.args.bench.now.jobs.items c.append.ensures.fits (omega (arith, c.append.ensures.given)) c.requires
