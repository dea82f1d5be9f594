use Rattle.volume.specs.Volumes.{PVolume}
use Rattle.volume.proofs.Leading.{volume, means_with}
use Rattle.volume.proofs.Differing.{tracks_same}
use Rattle.volume.proofs.volume.Volume.cancel.Goals as goal

pub invariant_of-self : goal.invariant_of-self
invariant_of-self c =
    let old : PVolume = volume c.self.inside.live c.self.inside.modified c.self.inside.snapshots in (
      record {
        world = c.self.invariant.0.world;
        means = means_with old c.cancel.new.self c.cancel.ensures.indexes c.self.invariant.0.world c.self.invariant.0.means;
        few = c.self.invariant.0.few;
        stands = c.assert_invariant.ensures;
      },
      tracks_same c.self.inside.changes c.self.inside.snapshots c.self.inside.live.indexes c.cancel.new.self.indexes c.cancel.ensures.indexes c.self.invariant.1,
    )
