use Rattle.std.proofs.Common.{arith}
use Rattle.jobs.proofs.Fitting.{built_fits}
use Rattle.tree_tests.proofs.Holding.{still_held}
use Rattle.tree_tests.proofs.takings.end.Goals as goal

pub install-requires : goal.install-requires
install-requires g c = built_fits g.U.Update.means c.args.job c.in-Ok.done c.args.bench.now.marked.tree c.args.bench.now.marked.marks c.in-Ok.ensures.ok c.requires.job.1

pub returns : goal.returns
returns g c = still_held g.U.Update.means c.args.bench.now.marked c.install.new.self c.args.bench.now.jobs.items c.install.ensures.fits (omega (arith, c.install.ensures.given)) c.requires.held
