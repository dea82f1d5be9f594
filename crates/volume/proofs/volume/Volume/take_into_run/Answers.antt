use Rattle.std.proofs.Common.{sym, subst}
use Rattle.volume.specs.RunJob.{AreHeld}
use Rattle.volume.specs.Volumes.{live_of}
use Rattle.volume.specs.declared.run_job.RunJob.TheVariants.{Taken}
use Rattle.volume.proofs.Holding.{all_still_held, held_more, taken_held}
use Rattle.volume.proofs.volume.Volume.take_into_run.Goals as goal

pub returns-in-Taken-clause-held : goal.returns-in-Taken-clause-held
returns-in-Taken-clause-held c =
    subst (AreHeld (live_of c.take_job.new.self)) (sym c.push_reserved.ensures.items)
    (held_more c.args.held.now.items (Taken c.in-Taken.job) (live_of c.take_job.new.self)
    (all_still_held c.args.held.now.items (live_of c.args.self.now) (live_of c.take_job.new.self) c.in-Taken.ensures.answers.kept c.requires.held)
    (taken_held c.args.index c.args.slot c.in-Taken.job (live_of c.args.self.now) (live_of c.take_job.new.self) c.in-Taken.ensures.answers))
