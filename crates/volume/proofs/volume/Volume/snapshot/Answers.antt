use Rattle.std.proofs.Common.{◌≡◌, ap, refl, sym, subst, ◌∙◌, Ok, Err}
use Rattle.std.specs.FinMap as finite
use Rattle.call_compiler.specs.declared.indexes.Indexes.{Indexes}
use Rattle.pathkey.specs.declared.errno.Errno.TheVariants.{ENOMEM, ENOSPC}
use Rattle.reference.specs.Worlds.{Snapped, TakeSnapshot}
use Rattle.volume.specs.Changes.{Settles, KeptAs}
use Rattle.volume.specs.Volumes.{PVolume}
use Rattle.volume.specs.declared.fs_root.FsRoot.{FsRoot}
use Rattle.volume.proofs.Differing.{tracks_begun}
use Rattle.volume.proofs.Leading.{volume, snapshot_taken, snapshot_lasts, snapshot_full, snapshot_lacks, refused_as}
use Rattle.volume.proofs.volume.Volume.snapshot.Goals as goal

pub returns-then-is_full : goal.returns-then-is_full
returns-then-is_full c =
    let old : PVolume = volume c.self.inside.live c.self.inside.modified c.self.inside.snapshots in
    subst (λ (v : PVolume). Settles (TakeSnapshot c.args.name.now) (KeptAs c.args.name.now) (Err ENOSPC) v v) c.self.view_is
    (snapshot_full old c.args.name.now (sym c.has.ensures ∙ c.if-has.false) (c.is_full.ensures.full c.if-is_full.true))

pub returns-in_err-copy : goal.returns-in_err-copy
returns-in_err-copy c =
    let old : PVolume = volume c.self.inside.live c.self.inside.modified c.self.inside.snapshots in
    let name = c.args.name.now in
    subst (λ (r : Snapped). Settles (TakeSnapshot c.args.name.now) (KeptAs c.args.name.now) r c.args.self.now c.args.self.now) (sym (refused_as c.from_residual.result ENOMEM c.from_residual.ensures.1))
    (subst (λ (v : PVolume). Settles (TakeSnapshot c.args.name.now) (KeptAs c.args.name.now) (Err ENOMEM) v v) c.self.view_is
    (snapshot_lacks old old name (sym c.has.ensures ∙ c.if-has.false) (c.is_full.ensures.room c.if-is_full.false) refl))

pub returns-in_err-add : goal.returns-in_err-add
returns-in_err-add c =
    let old : PVolume = volume c.self.inside.live c.self.inside.modified c.self.inside.snapshots in
    let new : PVolume = volume c.self.inside.live c.self.inside.modified c.add.new.self in
    let name = c.args.name.now in
    subst (λ (r : Snapped). Settles (TakeSnapshot c.args.name.now) (KeptAs c.args.name.now) r c.args.self.now new) (sym (refused_as c.from_residual-in_err-add.result ENOMEM c.from_residual-in_err-add.ensures.1))
    (subst (λ (v : PVolume). Settles (TakeSnapshot c.args.name.now) (KeptAs c.args.name.now) (Err ENOMEM) v new) c.self.view_is
    (snapshot_lacks old new name (sym c.has.ensures ∙ c.if-has.false) (c.is_full.ensures.room c.if-is_full.false) (ap (volume c.self.inside.live c.self.inside.modified) c.in_err-add.ensures.err)))

pub invariant_of-self-2 : goal.invariant_of-self-2
invariant_of-self-2 c =
    let old : PVolume = volume c.self.inside.live c.self.inside.modified c.self.inside.snapshots in
    let e : c.add.new.self ≡ finite.insert c.self.inside.snapshots c.args.name.now old.live = c.in_ok-add.ensures.kept ∙ ap (λ (r : FsRoot). finite.insert c.self.inside.snapshots c.args.name.now r) (c.in_ok-copy.ensures ∙ ap (λ (i : Indexes). record { indexes = i; modified = c.self.inside.modified }) c.indexes.ensures) in (
      snapshot_lasts old c.args.name.now c.add.new.self c.self.invariant.0 (sym c.has.ensures ∙ c.if-has.false) (c.is_full.ensures.room c.if-is_full.false) e,
      tracks_begun c.self.inside.changes c.begin.new.self c.self.inside.snapshots c.add.new.self c.args.name.now old.live (sym c.has.ensures ∙ c.if-has.false) e c.begin.ensures c.self.invariant.1,
    )

pub returns : goal.returns
returns c =
    let old : PVolume = volume c.self.inside.live c.self.inside.modified c.self.inside.snapshots in
    let e : c.add.new.self ≡ finite.insert c.self.inside.snapshots c.args.name.now old.live = c.in_ok-add.ensures.kept ∙ ap (λ (r : FsRoot). finite.insert c.self.inside.snapshots c.args.name.now r) (c.in_ok-copy.ensures ∙ ap (λ (i : Indexes). record { indexes = i; modified = c.self.inside.modified }) c.indexes.ensures) in
    subst (λ (v : PVolume). Settles (TakeSnapshot c.args.name.now) (KeptAs c.args.name.now) (Ok tt) v (volume c.self.inside.live c.self.inside.modified c.add.new.self)) c.self.view_is
    (snapshot_taken old c.args.name.now c.add.new.self (sym c.has.ensures ∙ c.if-has.false) (c.is_full.ensures.room c.if-is_full.false) e)
