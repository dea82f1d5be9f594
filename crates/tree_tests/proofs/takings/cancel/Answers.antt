use Rattle.std.proofs.Common.{arith}
use Rattle.tree_tests.proofs.Holding.{still_held}
use Rattle.tree_tests.proofs.takings.cancel.Goals as goal

pub returns-in-None : goal.returns-in-None
returns-in-None g c = still_held g.U.Update.means c.args.bench.now.marked c.cancel_all.new.self c.args.bench.now.jobs.items c.cancel_all.ensures.fits (omega (arith, c.cancel_all.ensures.given)) c.requires

pub returns-in-Some : goal.returns-in-Some
returns-in-Some g c = still_held g.U.Update.means c.args.bench.now.marked c.cancel.new.self c.args.bench.now.jobs.items c.cancel.ensures.fits (omega (arith, c.cancel.ensures.given)) c.requires
