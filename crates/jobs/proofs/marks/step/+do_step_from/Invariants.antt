use Rattle.std.proofs.Common.{length, ◌-◌}
use Rattle.jobs.proofs.marks.step.+do_step_from.Given as goal

abbrev pub decreases-do_step_from : goal.decreases-do_step_from
decreases-do_step_from g l = length l.marks.now.items - l.k
