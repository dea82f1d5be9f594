use Rattle.std.proofs.Common.{refl, sym, subst}
use Rattle.call_compiler.specs.Compiled.{messages}
use Rattle.call_compiler.specs.Punched.{IsPunched}
use Rattle.reference.specs.declared.reply.Reply.{Reply}
use Rattle.volume.specs.Holes.{Compiles, Punches}
use Rattle.volume.specs.Typed.{IsCount}
use Rattle.volume.specs.Volumes.{PVolume, live_of}
use Rattle.volume.proofs.HoleCalls.{answered_hole, hole_count, hole_lasts, lacks_hole}
use Rattle.volume.proofs.Leading.{volume}
use Rattle.volume.proofs.volume.Volume.send_zeros.Goals as goal
use Rattle.volume.proofs.volume.Volume.send_zeros.Goals.{After-reply_to}

abbrev old : After-reply_to → PVolume
old c = volume c.self.inside.live c.self.inside.modified c.self.inside.snapshots

pub invariant_of-self : goal.invariant_of-self
invariant_of-self c =
    let (p, off, n, at, given) = c.requires in
    let made : IsPunched (old c).live.indexes p off n at c.in-Ok.reply (messages c.in-Ok.batch) = subst (Compiles (old c).live.indexes p off n at) c.in-Ok.is (subst (λ (v : PVolume). Compiles v.live.indexes p off n at c.args.compiled) (sym c.self.view_is) given) in (
      hole_lasts (old c) c.self.invariant.0 p off n at c.append_noted-punched.new.live _ (answered_hole (old c) c.self.invariant.0 p off n at c.append_noted-punched.new.live c.in-Ok.reply _ c.append_noted-punched.result made c.append_noted-punched.ensures.appended) c.assert_invariant.ensures,
      c.append_noted-punched.ensures.noted c.self.inside.snapshots c.self.invariant.1,
    )

pub returns-clause-punches : goal.returns-clause-punches
returns-clause-punches c = λ p off n at given.
    let l = c.append_noted-punched.new.live in
    let made : IsPunched (old c).live.indexes p off n at c.in-Ok.reply (messages c.in-Ok.batch) = subst (Compiles (old c).live.indexes p off n at) c.in-Ok.is (subst (λ (v : PVolume). Compiles v.live.indexes p off n at c.args.compiled) (sym c.self.view_is) given) in
    subst (λ (v : PVolume). Punches p off n at c.reply_to.result v (volume l c.self.inside.modified c.self.inside.snapshots)) c.self.view_is
    (subst (λ (r : Reply). Punches p off n at r (old c) (volume l c.self.inside.modified c.self.inside.snapshots)) (sym c.reply_to.ensures)
    (answered_hole (old c) c.self.invariant.0 p off n at l c.in-Ok.reply _ c.append_noted-punched.result made c.append_noted-punched.ensures.appended))

pub returns-clause-count : goal.returns-clause-count
returns-clause-count c = λ p off n at given.
    let made : IsPunched (old c).live.indexes p off n at c.in-Ok.reply (messages c.in-Ok.batch) = subst (Compiles (old c).live.indexes p off n at) c.in-Ok.is (subst (λ (v : PVolume). Compiles v.live.indexes p off n at c.args.compiled) (sym c.self.view_is) given) in
    subst IsCount (sym c.reply_to.ensures) (hole_count (old c) c.self.invariant.0 p off n at c.append_noted-punched.new.live c.in-Ok.reply _ c.append_noted-punched.result made)

pub returns-in_default-clause-punches : goal.returns-in_default-clause-punches
returns-in_default-clause-punches c = λ p off n at given. lacks_hole c.args.self.now p off n at (live_of c.args.self.now) refl

pub returns-in_default-clause-count : goal.returns-in_default-clause-count
returns-in_default-clause-count c = λ p off n at given. tt
