use Rattle.std.proofs.Common.{Option, subst}
use Rattle.std.specs.Prelude.{IfSome}
use Rattle.reference.specs.Worlds.{World}
use Rattle.volume.specs.Changes.{Stepped}
use Rattle.volume.specs.Volumes.{PVolume, Means}
use Rattle.volume.specs.declared.event.CompactStep.{CompactStep}
use Rattle.volume.proofs.Leading.{volume, relieved, relief_keeps}
use Rattle.volume.proofs.Differing.{tracks_stepped}
use Rattle.volume.proofs.volume.Volume.compact_step.Goals as goal

pub invariant_of-self : goal.invariant_of-self
invariant_of-self c =
    let old : PVolume = volume c.self.inside.live c.self.inside.modified c.self.inside.snapshots in
    let r : Option CompactStep = c.compact_step-relief.result in (
      record {
        world = c.self.invariant.0.world;
        means = relief_keeps old r c.compact_step-relief.new.self c.compact_step-relief.ensures.stepped c.compact_step-relief.ensures.unchanged c.self.invariant.0.world c.self.invariant.0.means;
        few = c.self.invariant.0.few;
        stands = c.assert_invariant.ensures;
      },
      tracks_stepped c.self.inside.changes c.self.inside.snapshots c.self.inside.live c.compact_step-relief.new.self r c.compact_step-relief.ensures.stepped c.compact_step-relief.ensures.unchanged c.self.invariant.1,
    )

pub returns-clause-stepped : goal.returns-clause-stepped
returns-clause-stepped c =
    let old : PVolume = volume c.self.inside.live c.self.inside.modified c.self.inside.snapshots in
    let r : Option CompactStep = c.compact_step-relief.result in
    subst (λ (v : PVolume). IfSome r (λ t. Stepped t.step t.reply v (volume c.compact_step-relief.new.self c.self.inside.modified c.self.inside.snapshots))) c.self.view_is (relieved old r c.compact_step-relief.new.self c.compact_step-relief.ensures.stepped)

pub returns-clause-means : goal.returns-clause-means
returns-clause-means c =
    let old : PVolume = volume c.self.inside.live c.self.inside.modified c.self.inside.snapshots in
    let r : Option CompactStep = c.compact_step-relief.result in
    subst (λ (v : PVolume). (w : World) → Means v w → Means (volume c.compact_step-relief.new.self c.self.inside.modified c.self.inside.snapshots) w) c.self.view_is
    (relief_keeps old r c.compact_step-relief.new.self c.compact_step-relief.ensures.stepped c.compact_step-relief.ensures.unchanged)
