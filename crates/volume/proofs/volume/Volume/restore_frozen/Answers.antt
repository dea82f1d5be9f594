use Rattle.std.proofs.Common.{subst, sym, ◌∙◌, Ok}
use Rattle.pathkey.specs.declared.errno.NoMemory.{NoMemory}
use Rattle.volume.specs.Forks.{RestoresTree}
use Rattle.volume.specs.Volumes.{IsVolume, PVolume}
use Rattle.volume.proofs.Forking.{restored_lasts, tree_restored}
use Rattle.volume.proofs.Leading.{volume}
use Rattle.volume.proofs.Differing.{tracks_none}
use Rattle.volume.proofs.volume.Volume.restore_frozen.Goals as goal

pub invariant_of-self : goal.invariant_of-self
invariant_of-self c =
    let old : PVolume = volume c.self.inside.live c.self.inside.modified c.self.inside.snapshots in
    let same = c.replace.ensures.indexes ∙ c.in_ok-restored.ensures ∙ c.indexes.ensures in (
      subst (λ n. IsVolume (volume c.replace.new.self n c.self.inside.snapshots)) (sym c.modified-self-inside.ensures)
          (restored_lasts old c.args.tree.now c.replace.new.self c.self.invariant.0 c.assert_invariant.ensures same c.assert_invariant-2.ensures),
      tracks_none c.forget_all.new.self c.self.inside.snapshots c.replace.new.self.indexes c.forget_all.ensures,
    )

pub returns : goal.returns
returns c =
    let old : PVolume = volume c.self.inside.live c.self.inside.modified c.self.inside.snapshots in
    let same = c.replace.ensures.indexes ∙ c.in_ok-restored.ensures ∙ c.indexes.ensures in
    subst (λ n. RestoresTree {E = NoMemory} c.args.tree.now (Ok tt) c.args.self.now (volume c.replace.new.self n c.self.inside.snapshots)) (sym c.modified-self-inside.ensures)
    (subst (λ (v : PVolume). RestoresTree {E = NoMemory} c.args.tree.now (Ok tt) v (volume c.replace.new.self c.args.tree.now.modified c.self.inside.snapshots)) c.self.view_is
    (tree_restored old c.args.tree.now c.replace.new.self same c.replace.ensures.marks c.replace.ensures.kept))
