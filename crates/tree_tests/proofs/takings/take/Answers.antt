use Rattle.std.proofs.Common.{arith}
use Rattle.tree_tests.proofs.Holding.{still_held}
use Rattle.tree_tests.proofs.takings.take.Goals as goal

pub keep-requires-clause-held : goal.keep-requires-clause-held
keep-requires-clause-held g c = still_held g.U.Update.means c.args.bench.now.marked c.take_job.new.self c.args.bench.now.jobs.items c.take_job.ensures.fits (omega (arith, c.in-Taken.ensures.taken.given)) c.requires
