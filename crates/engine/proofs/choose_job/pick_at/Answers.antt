use Rattle.engine.proofs.Picking.{picks-of}
use Rattle.engine.proofs.choose_job.pick_at.Goals as goal

pub returns : goal.returns
returns c = picks-of _ _ _ _ _ c.take_job.ensures.answers c.take_job.ensures.root c.take_job.ensures.snapshots c.take_job.ensures.means
