use Rattle.std.proofs.Common.{subst}
use Rattle.reference.specs.Worlds.{World}
use Rattle.volume.specs.Volumes.{PVolume, Means}
use Rattle.volume.proofs.Differing.{tracks_values}
use Rattle.volume.proofs.Leading.{volume, means_same}
use Rattle.volume.proofs.volume.Volume.condense.Goals as goal

pub invariant_of-self : goal.invariant_of-self
invariant_of-self c =
    let old : PVolume = volume c.self.inside.live c.self.inside.modified c.self.inside.snapshots in (
      record {
        world = c.self.invariant.0.world;
        means = means_same old c.condense.new.self c.condense.ensures.values c.self.invariant.0.world c.self.invariant.0.means;
        few = c.self.invariant.0.few;
        stands = c.assert_invariant.ensures;
      },
      tracks_values c.self.inside.changes c.self.inside.snapshots c.self.inside.live.indexes c.condense.new.self.indexes c.condense.ensures.values c.self.invariant.1,
    )

pub returns-clause-means : goal.returns-clause-means
returns-clause-means c =
    let old : PVolume = volume c.self.inside.live c.self.inside.modified c.self.inside.snapshots in
    subst (λ (v : PVolume). (w : World) → Means v w → Means (volume c.condense.new.self c.self.inside.modified c.self.inside.snapshots) w) c.self.view_is
    (means_same old c.condense.new.self c.condense.ensures.values)
