use Rattle.std.proofs.Common.{List, sym, subst}
use Rattle.engine.specs.Takings.{IsTaken, KnowsMarks}
use Rattle.volume.specs.Volumes.{live_of}
use Rattle.volume.specs.declared.job.Job.{Job}
use Rattle.engine.proofs.Takings.{knows-more, taken-last, ticket-new}
use Rattle.engine.proofs.locked_state.take_recorded.Goals as goal

pub record_taken_job-requires-clause-new : goal.record_taken_job-requires-clause-new
record_taken_job-requires-clause-new g c =
    let t = c.in-Taken.ensures.taken in
    ticket-new t.0 t.1 c.args.engine.now.me.0.takings c.in-Taken.job (live_of c.args.volume.now) (live_of c.choose_job.new.volume) t.2 c.requires.knows

pub returns-in-Taken-clause-knows : goal.returns-in-Taken-clause-knows
returns-in-Taken-clause-knows g c =
    let t = c.in-Taken.ensures.taken in
    subst (λ (js : List Job). KnowsMarks js (live_of c.choose_job.new.volume)) (sym c.record_taken_job.ensures.takings)
    (knows-more t.0 t.1 c.args.engine.now.me.0.takings c.in-Taken.job (live_of c.args.volume.now) (live_of c.choose_job.new.volume) t.2 c.requires.knows)

pub returns-in-Taken-clause-taken : goal.returns-in-Taken-clause-taken
returns-in-Taken-clause-taken g c = subst (λ (js : List Job). IsTaken js c.in-Taken.job) (sym c.record_taken_job.ensures.takings) (taken-last c.args.engine.now.me.0.takings c.in-Taken.job)
