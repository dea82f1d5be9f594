use Rattle.std.proofs.Common.{subst}
use Rattle.reference.specs.Worlds.{World}
use Rattle.volume.specs.Jobs.{AnswersTaking}
use Rattle.volume.specs.Volumes.{PVolume, Means, live_of}
use Rattle.volume.proofs.Leading.{volume, taken_means, taken_same}
use Rattle.volume.proofs.Differing.{tracks_same}
use Rattle.volume.proofs.volume.Volume.take_job.Goals as goal

pub invariant_of-self : goal.invariant_of-self
invariant_of-self c =
    let old : PVolume = volume c.self.inside.live c.self.inside.modified c.self.inside.snapshots in (
      record {
        world = c.self.invariant.0.world;
        means = taken_means old c.args.index c.args.slot c.take_job-reply.result c.take_job-reply.new.self c.take_job-reply.ensures c.self.invariant.0.world c.self.invariant.0.means;
        few = c.self.invariant.0.few;
        stands = c.assert_invariant.ensures;
      },
      tracks_same c.self.inside.changes c.self.inside.snapshots c.self.inside.live.indexes c.take_job-reply.new.self.indexes (taken_same old c.args.index c.args.slot c.take_job-reply.result c.take_job-reply.new.self c.take_job-reply.ensures) c.self.invariant.1,
    )

pub returns-clause-answers : goal.returns-clause-answers
returns-clause-answers c = subst (λ (v : PVolume). AnswersTaking c.args.index c.args.slot c.take_job-reply.result (live_of v) c.take_job-reply.new.self) c.self.view_is c.take_job-reply.ensures

pub returns-clause-means : goal.returns-clause-means
returns-clause-means c =
    let old : PVolume = volume c.self.inside.live c.self.inside.modified c.self.inside.snapshots in
    subst (λ (v : PVolume). (w : World) → Means v w → Means (volume c.take_job-reply.new.self c.self.inside.modified c.self.inside.snapshots) w) c.self.view_is
    (taken_means old c.args.index c.args.slot c.take_job-reply.result c.take_job-reply.new.self c.take_job-reply.ensures)
