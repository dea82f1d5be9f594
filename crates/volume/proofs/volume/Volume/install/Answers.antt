use Rattle.std.proofs.Common.{sym, subst}
use Rattle.reference.specs.Worlds.{World}
use Rattle.volume.specs.Jobs.{AnswersInstalling, DoneFits}
use Rattle.volume.specs.Volumes.{PVolume, Means, live_of}
use Rattle.volume.proofs.Leading.{volume, means_same}
use Rattle.volume.proofs.Differing.{tracks_values}
use Rattle.volume.proofs.volume.Volume.install.Goals as goal

pub install-reply-requires : goal.install-reply-requires
install-reply-requires c = subst (λ (v : PVolume). DoneFits c.args.done (live_of v)) (sym c.self.view_is) c.requires

pub invariant_of-self : goal.invariant_of-self
invariant_of-self c =
    let old : PVolume = volume c.self.inside.live c.self.inside.modified c.self.inside.snapshots in (
      record {
        world = c.self.invariant.0.world;
        means = means_same old c.install-reply.new.self c.install-reply.ensures.values c.self.invariant.0.world c.self.invariant.0.means;
        few = c.self.invariant.0.few;
        stands = c.assert_invariant.ensures;
      },
      tracks_values c.self.inside.changes c.self.inside.snapshots c.self.inside.live.indexes c.install-reply.new.self.indexes c.install-reply.ensures.values c.self.invariant.1,
    )

pub returns-clause-answers : goal.returns-clause-answers
returns-clause-answers c = subst (λ (v : PVolume). AnswersInstalling c.args.done c.install-reply.result (live_of v) c.install-reply.new.self) c.self.view_is c.install-reply.ensures

pub returns-clause-means : goal.returns-clause-means
returns-clause-means c =
    let old : PVolume = volume c.self.inside.live c.self.inside.modified c.self.inside.snapshots in
    subst (λ (v : PVolume). (w : World) → Means v w → Means (volume c.install-reply.new.self c.self.inside.modified c.self.inside.snapshots) w) c.self.view_is
    (means_same old c.install-reply.new.self c.install-reply.ensures.values)
