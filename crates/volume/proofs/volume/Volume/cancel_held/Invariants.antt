use Rattle.std.proofs.Common.{◌≡◌, take}
use Rattle.volume.specs.RunJob.{without_held}
use Rattle.volume.proofs.volume.Volume.cancel_held.Given as goal

abbrev pub invariant-loop-job : goal.invariant-loop-job
invariant-loop-job l = record {
  volume : l.self ≡ record (l.initial.self) { marks = without_held (take l.job-index l.held) l.initial.self.marks };
}
