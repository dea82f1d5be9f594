use Rattle.std.proofs.Common.{refl, sym, subst}
use Rattle.call_compiler.specs.Compiled.{messages}
use Rattle.call_compiler.specs.Copied.{IsCopied}
use Rattle.reference.specs.declared.reply.Reply.{Reply}
use Rattle.volume.specs.Copies.{Compiles, Copies}
use Rattle.volume.specs.Typed.{IsCount}
use Rattle.volume.specs.Volumes.{PVolume, live_of}
use Rattle.volume.proofs.CopyCalls.{answered_copy, copy_count, copy_lasts, lacks_copy}
use Rattle.volume.proofs.Leading.{volume}
use Rattle.volume.proofs.volume.Volume.send_copied.Goals as goal
use Rattle.volume.proofs.volume.Volume.send_copied.Goals.{After-reply_to}

abbrev old : After-reply_to → PVolume
old c = volume c.self.inside.live c.self.inside.modified c.self.inside.snapshots

pub invariant_of-self : goal.invariant_of-self
invariant_of-self c =
    let (p, off, q, target, n, at, given) = c.requires in
    let made : IsCopied (old c).live.indexes p off q target n at c.in-Ok.reply (messages c.in-Ok.batch) = subst (Compiles (old c).live.indexes p off q target n at) c.in-Ok.is (subst (λ (v : PVolume). Compiles v.live.indexes p off q target n at c.args.compiled) (sym c.self.view_is) given) in (
      copy_lasts (old c) c.self.invariant.0 p off q target n at c.append_noted-copied.new.live _ (answered_copy (old c) c.self.invariant.0 p off q target n at c.append_noted-copied.new.live c.in-Ok.reply _ c.append_noted-copied.result made c.append_noted-copied.ensures.appended) c.assert_invariant.ensures,
      c.append_noted-copied.ensures.noted c.self.inside.snapshots c.self.invariant.1,
    )

pub returns-clause-copies : goal.returns-clause-copies
returns-clause-copies c = λ p off q target n at given.
    let l = c.append_noted-copied.new.live in
    let made : IsCopied (old c).live.indexes p off q target n at c.in-Ok.reply (messages c.in-Ok.batch) = subst (Compiles (old c).live.indexes p off q target n at) c.in-Ok.is (subst (λ (v : PVolume). Compiles v.live.indexes p off q target n at c.args.compiled) (sym c.self.view_is) given) in
    subst (λ (v : PVolume). Copies p off q target n at c.reply_to.result v (volume l c.self.inside.modified c.self.inside.snapshots)) c.self.view_is
    (subst (λ (r : Reply). Copies p off q target n at r (old c) (volume l c.self.inside.modified c.self.inside.snapshots)) (sym c.reply_to.ensures)
    (answered_copy (old c) c.self.invariant.0 p off q target n at l c.in-Ok.reply _ c.append_noted-copied.result made c.append_noted-copied.ensures.appended))

pub returns-clause-count : goal.returns-clause-count
returns-clause-count c = λ p off q target n at given.
    let made : IsCopied (old c).live.indexes p off q target n at c.in-Ok.reply (messages c.in-Ok.batch) = subst (Compiles (old c).live.indexes p off q target n at) c.in-Ok.is (subst (λ (v : PVolume). Compiles v.live.indexes p off q target n at c.args.compiled) (sym c.self.view_is) given) in
    subst IsCount (sym c.reply_to.ensures) (copy_count (old c) c.self.invariant.0 p off q target n at c.append_noted-copied.new.live c.in-Ok.reply _ c.append_noted-copied.result made)

pub returns-in_default-clause-copies : goal.returns-in_default-clause-copies
returns-in_default-clause-copies c = λ p off q target n at given. lacks_copy c.args.self.now p off q target n at (live_of c.args.self.now) refl

pub returns-in_default-clause-count : goal.returns-in_default-clause-count
returns-in_default-clause-count c = λ p off q target n at given. tt
