use Rattle.std.proofs.Common.{sym, subst}
use Rattle.volume.specs.Plants.{Plants}
use Rattle.volume.specs.Volumes.{PVolume, IsVolume}
use Rattle.volume.proofs.Leading.{volume}
use Rattle.volume.proofs.Plants.{lasts_planted, planted_volume}
use Rattle.volume.proofs.volume.Volume.plant_entry.Goals as goal

pub invariant_of-self : goal.invariant_of-self
invariant_of-self c =
    let e = c.plant-answer.ensures in
    let old : PVolume = volume c.self.inside.live c.self.inside.modified c.self.inside.snapshots in (
      subst (λ n. IsVolume (volume c.plant-answer.new.live n c.self.inside.snapshots)) (sym c.after_planting-self-inside.ensures)
          (lasts_planted old c.plant-answer.new.live c.args.path.now c.args.meta c.plant-answer.result c.self.invariant.0 (record { entry = e.entry; lists = e.lists; marks = e.marks; kept = e.kept }) c.assert_invariant.ensures),
      e.noted c.self.inside.snapshots c.self.invariant.1,
    )

pub returns : goal.returns
returns c =
    let e = c.plant-answer.ensures in
    let old : PVolume = volume c.self.inside.live c.self.inside.modified c.self.inside.snapshots in
    subst (λ (v : PVolume). Plants c.args.path.now c.args.meta c.plant-answer.result v (volume c.plant-answer.new.live c.after_planting-self-inside.result c.self.inside.snapshots)) c.self.view_is
    (subst (λ n. Plants c.args.path.now c.args.meta c.plant-answer.result old (volume c.plant-answer.new.live n c.self.inside.snapshots)) (sym c.after_planting-self-inside.ensures)
    (planted_volume old c.plant-answer.new.live c.args.path.now c.args.meta c.plant-answer.result (record { entry = e.entry; lists = e.lists; marks = e.marks; kept = e.kept })))
