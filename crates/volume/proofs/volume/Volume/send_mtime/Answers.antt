use Rattle.std.proofs.Common.{◌∙◌, Bool, ap, refl, sym, subst}
use Rattle.call_compiler.specs.Compiled.{messages}
use Rattle.call_compiler.specs.Mtimes.{SetsMtime as CompilesMtime}
use Rattle.pathkey.specs.Names.{Path, is_root}
use Rattle.reference.specs.declared.reply.Reply.{Reply}
use Rattle.volume.specs.FsRoot.{after_call, reply_to}
use Rattle.volume.specs.Mtimes.{Asks, Compiles, SetsMtime}
use Rattle.volume.specs.Typed.{IsSettled}
use Rattle.volume.specs.Volumes.{PVolume, IsVolume, live_of}
use Rattle.volume.proofs.Leading.{volume}
use Rattle.volume.proofs.MtimeCalls.{answered_mtime, lacks_mtime, mtime_lasts, mtime_settled}
use Rattle.volume.proofs.volume.Volume.send_mtime.Goals as goal
use Rattle.volume.proofs.volume.Volume.send_mtime.Goals.{After-self-1}

abbrev old : After-self-1 → PVolume
old c = volume c.self.inside.live c.self.inside.modified c.self.inside.snapshots

-- what was requested
asked : (c : After-self-1) (p : Path) → Asks c.args.self.now.live.indexes p c.args.at c.args.compiled c.args.is_root → Asks (old c).live.indexes p c.args.at c.args.compiled c.args.is_root
asked c p given = subst (λ (v : PVolume). Asks v.live.indexes p c.args.at c.args.compiled c.args.is_root) (sym c.self.view_is) given

-- what it was compiled to
made : (c : After-self-1) (p : Path) → Compiles (old c).live.indexes p c.args.at c.args.compiled → CompilesMtime (old c).live.indexes p c.args.at c.in-Ok.reply (messages c.in-Ok.batch)
made c p h = subst (Compiles (old c).live.indexes p c.args.at) c.in-Ok.is h

pub invariant_of-self : goal.invariant_of-self
invariant_of-self c =
    let l = c.append_noted-sent.new.live in
    let p : Path = c.requires.0 in
    let asks : Asks (old c).live.indexes p c.args.at c.args.compiled c.args.is_root = asked c p c.requires.1 in
    let r : Reply = reply_to c.append_noted-sent.result c.in-Ok.reply in (
      subst (λ n. IsVolume (volume l n c.self.inside.snapshots))
          (ap (λ (b : Bool). after_call b r c.args.at c.self.inside.modified) (sym asks.is_root)
          ∙ ap (λ (q : Reply). after_call c.args.is_root q c.args.at c.self.inside.modified) (sym c.reply_to-reply.ensures)
          ∙ sym c.after_call-self-inside.ensures)
          (mtime_lasts (old c) c.self.invariant.0 p c.args.at l r
          (answered_mtime (old c) c.self.invariant.0 p c.args.at l c.in-Ok.reply _ c.append_noted-sent.result (made c p asks.compiles) c.append_noted-sent.ensures.appended) c.assert_invariant.ensures),
      c.append_noted-sent.ensures.noted c.self.inside.snapshots c.self.invariant.1,
    )

pub returns-clause-sets : goal.returns-clause-sets
returns-clause-sets c = λ p given.
    let l = c.append_noted-sent.new.live in
    let asks : Asks (old c).live.indexes p c.args.at c.args.compiled c.args.is_root = asked c p given in
    subst (λ (v : PVolume). SetsMtime p c.args.at c.reply_to-reply.result v (volume l c.after_call-self-inside.result c.self.inside.snapshots)) c.self.view_is
    (subst (λ n. SetsMtime p c.args.at c.reply_to-reply.result (old c) (volume l n c.self.inside.snapshots))
    (ap (λ (b : Bool). after_call b c.reply_to-reply.result c.args.at c.self.inside.modified) (sym asks.is_root) ∙ sym c.after_call-self-inside.ensures)
    (subst (λ (r : Reply). SetsMtime p c.args.at r (old c) (volume l (after_call (is_root p) r c.args.at c.self.inside.modified) c.self.inside.snapshots)) (sym c.reply_to-reply.ensures)
    (answered_mtime (old c) c.self.invariant.0 p c.args.at l c.in-Ok.reply _ c.append_noted-sent.result (made c p asks.compiles) c.append_noted-sent.ensures.appended)))

pub returns-clause-settled : goal.returns-clause-settled
returns-clause-settled c =
    let (p, given) = c.requires in
    let asks : Asks (old c).live.indexes p c.args.at c.args.compiled c.args.is_root = asked c p given in
    subst IsSettled (sym c.reply_to-reply.ensures)
    (mtime_settled (old c) c.self.invariant.0 p c.args.at c.append_noted-sent.new.live c.in-Ok.reply _ c.append_noted-sent.result (made c p asks.compiles))

pub returns-in_default-clause-sets : goal.returns-in_default-clause-sets
returns-in_default-clause-sets c = λ p given. lacks_mtime c.args.self.now p c.args.at (live_of c.args.self.now) refl

pub returns-in_default-clause-settled : goal.returns-in_default-clause-settled
returns-in_default-clause-settled c = tt
