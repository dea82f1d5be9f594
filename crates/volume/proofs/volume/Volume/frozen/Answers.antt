use Rattle.std.proofs.Common.{◌≡◌, ap, sym, ◌∙◌, subst, Some}
use Rattle.std.specs.FinMap as finite
use Rattle.std.specs.Option.{option_copied}
use Rattle.reference.specs.Tree.{Tree}
use Rattle.volume.specs.Volumes.{PVolume, MeanRooted, MeanSome, Means}
use Rattle.volume.specs.declared.fs_root.FsRoot.{FsRoot}
use Rattle.volume.proofs.Leading.{volume}
use Rattle.volume.proofs.Pairs.{found_alike}
use Rattle.volume.proofs.volume.Volume.frozen.Goals as goal

pub new-requires : goal.new-requires
new-requires c =
    let there : finite.get c.self.inside.snapshots c.args.name.now ≡ Some c.in-Some.snapshot_root.now = sym c.get.ensures ∙ ap option_copied c.in-Some.is in
    let f : (t : Tree) × (finite.get c.self.invariant.0.world.snapshots c.args.name.now ≡ Some t) × MeanRooted c.in-Some.snapshot_root.now t =
    found_alike MeanRooted c.self.inside.snapshots c.self.invariant.0.world.snapshots c.args.name.now c.in-Some.snapshot_root.now c.self.invariant.0.means.snapshots there in
    subst MeanSome (sym c.in_ok-share.ensures) (record { tree = f.0; means = f.2 })

pub returns-clause-means : goal.returns-clause-means
returns-clause-means c = λ w m.
    let there : finite.get c.self.inside.snapshots c.args.name.now ≡ Some c.in-Some.snapshot_root.now = sym c.get.ensures ∙ ap option_copied c.in-Some.is in
    let means : Means (volume c.self.inside.live c.self.inside.modified c.self.inside.snapshots) w = subst (λ (v : PVolume). Means v w) (sym c.self.view_is) m in
    let f : (t : Tree) × (finite.get w.snapshots c.args.name.now ≡ Some t) × MeanRooted c.in-Some.snapshot_root.now t =
    found_alike MeanRooted c.self.inside.snapshots w.snapshots c.args.name.now c.in-Some.snapshot_root.now means.snapshots there in
    record {
      found = (f.0, f.1, subst (λ (r : FsRoot). MeanRooted r f.0) (sym (c.new.ensures ∙ c.in_ok-share.ensures)) f.2);
      none = ((λ e. (cc)), (λ e. let clash = sym f.1 ∙ e in (cc)));
    }
