use Rattle.std.proofs.Common.{subst, sym}
use Rattle.volume.specs.Marked.{PLive}
use Rattle.volume.specs.Volumes.{IsVolume, PVolume}
use Rattle.volume.proofs.Leading.{volume}
use Rattle.volume.proofs.Differing.{tracks_none}
use Rattle.volume.proofs.volume.Volume.put_back.Goals as goal

pub invariant_of-self : goal.invariant_of-self
invariant_of-self c = (
  subst (λ (l : PLive). IsVolume (volume l c.args.before.modified c.self.inside.snapshots)) (sym c.put_back.ensures)
      (subst (λ (v : PVolume). IsVolume (record v { live = c.args.before })) (sym c.self.view_is) c.requires),
  tracks_none c.forget_all.new.self c.self.inside.snapshots c.put_back.new.self.indexes c.forget_all.ensures,
)
