use Rattle.std.proofs.Common.{◌≡◌, ap, sym, subst, ◌∙◌, Ok, Some}
use Rattle.std.specs.FinMap as finite
use Rattle.std.specs.Option.{option_copied}
use Rattle.call_compiler.specs.declared.indexes.Indexes.{Indexes}
use Rattle.reference.specs.Worlds.{RestoreSnapshot, Settled}
use Rattle.volume.specs.Changes.{Settles, Restored}
use Rattle.volume.specs.Volumes.{PVolume}
use Rattle.volume.specs.declared.fs_root.FsRoot.{FsRoot}
use Rattle.volume.proofs.Leading.{volume, snapshot_restored, put_back, lasts}
use Rattle.volume.proofs.Differing.{tracks_restored}
use Rattle.volume.proofs.volume.Volume.restore.Goals as goal

pub invariant_of-self : goal.invariant_of-self
invariant_of-self c =
    let snapshot_root : FsRoot = c.in-Some.snapshot_root.now in
    let old : PVolume = volume c.self.inside.live c.self.inside.modified c.self.inside.snapshots in
    let there : finite.get c.self.inside.snapshots c.args.name.now ≡ Some snapshot_root = sym c.get.ensures ∙ ap option_copied c.in-Some.is in
    let e : finite.get c.self.inside.snapshots c.args.name.now ≡ Some (record { indexes = c.replace.new.self.indexes; modified = snapshot_root.modified }) =
    there ∙ ap (λ (i : Indexes). Some (record { indexes = i; modified = snapshot_root.modified })) (sym (c.replace.ensures.indexes ∙ c.in_ok-copy.ensures)) in (
      lasts old (volume c.replace.new.self snapshot_root.modified c.self.inside.snapshots) (RestoreSnapshot c.args.name.now) (Settled (Ok tt)) c.self.invariant.0 (put_back old c.args.name.now c.replace.new.self snapshot_root.modified e) c.self.invariant.0.few c.assert_invariant.ensures,
      tracks_restored c.args.name.now c.self.inside.changes c.restore.new.self c.self.inside.snapshots c.self.inside.live.indexes c.replace.new.self.indexes snapshot_root there (c.replace.ensures.indexes ∙ c.in_ok-copy.ensures) c.restore.ensures c.self.invariant.1,
    )

pub returns : goal.returns
returns c =
    let snapshot_root : FsRoot = c.in-Some.snapshot_root.now in
    let old : PVolume = volume c.self.inside.live c.self.inside.modified c.self.inside.snapshots in
    let there : finite.get c.self.inside.snapshots c.args.name.now ≡ Some snapshot_root = sym c.get.ensures ∙ ap option_copied c.in-Some.is in
    let e : finite.get c.self.inside.snapshots c.args.name.now ≡ Some (record { indexes = c.replace.new.self.indexes; modified = snapshot_root.modified }) =
    there ∙ ap (λ (i : Indexes). Some (record { indexes = i; modified = snapshot_root.modified })) (sym (c.replace.ensures.indexes ∙ c.in_ok-copy.ensures)) in
    subst (λ (v : PVolume). Settles (RestoreSnapshot c.args.name.now) (Restored c.args.name.now) (Ok tt) v (volume c.replace.new.self snapshot_root.modified c.self.inside.snapshots)) c.self.view_is
    (snapshot_restored old c.args.name.now c.replace.new.self snapshot_root.modified e c.replace.ensures.marks c.replace.ensures.kept)
