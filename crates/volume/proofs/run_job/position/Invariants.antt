use Rattle.std.proofs.Common.{◌≡◌, None, take}
use Rattle.volume.specs.RunJob.{position}
use Rattle.volume.proofs.run_job.position.Given as goal

abbrev pub invariant-loop-job : goal.invariant-loop-job
invariant-loop-job l = record {
  none : position l.ticket.number (take l.job-index l.held) ≡ None;
  count : l.i ≡ l.job-index;
}
