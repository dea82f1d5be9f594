use Rattle.std.proofs.Common.{sym, subst}
use Rattle.volume.proofs.Holding.{built_held, still_held, taken_held}
use Rattle.volume.specs.Jobs.{DoneFits}
use Rattle.volume.specs.RunJob.{IsHeld}
use Rattle.volume.specs.Volumes.{live_of}
use Rattle.volume.specs.declared.event.Index.TheVariants.{Meta}
use Rattle.volume.specs.declared.run_job.RunJob.TheVariants.{Taken, Built}
use Rattle.volume_tests.proofs.job_rows.take_and_install.Goals.{then-cancelled, else-cancelled}
use Rattle.volume_tests.proofs.job_rows.take_and_install.Goals as goal

-- what was built of the job is held, also after its mark is cancelled
pub installed-requires : goal.installed-requires
installed-requires c =
    let taken : IsHeld (live_of c.take_job.new.self) (Taken c.in-Taken.job) = taken_held Meta 0 c.in-Taken.job (live_of c.args.volume.now) (live_of c.take_job.new.self) c.in-Taken.ensures.answers in
    let built : IsHeld (live_of c.take_job.new.self) (Built c.in-Ok.done) = built_held (Taken c.in-Taken.job) c.in-Ok.done (live_of c.take_job.new.self) c.in-Ok.ensures.ok taken in
    elim c.if-cancelled.branch [
      | then-cancelled w ↦ subst (λ v. DoneFits c.in-Ok.done (live_of v)) (sym w.volume-is) (still_held (Built c.in-Ok.done) (live_of c.take_job.new.self) (live_of w.cancel.new.self) w.cancel.ensures.kept built).1
      | else-cancelled w ↦ subst (λ v. DoneFits c.in-Ok.done (live_of v)) (sym w.volume-is) built.1
    ]
