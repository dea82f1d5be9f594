use Rattle.std.proofs.Common.{◌∙◌, Bool, ap, refl, sym, subst}
use Rattle.call_compiler.specs.Compiled.{IsCompiled, messages, touches_root}
use Rattle.pathkey.specs.declared.errno.Errno.TheVariants.{ENOMEM}
use Rattle.reference.specs.declared.call.Call.{Call}
use Rattle.reference.specs.declared.reply.Reply.{Reply}
use Rattle.volume.specs.Changes.{Called}
use Rattle.volume.specs.FsRoot.{after_call, reply_to}
use Rattle.volume.specs.Typed.{Asks, Compiles, IsOfKind}
use Rattle.volume.specs.Volumes.{PVolume, IsVolume, live_of}
use Rattle.volume.proofs.Leading.{volume, answered, answered_lasts, lacks_call}
use Rattle.volume.proofs.Typing.{answered_kind, compiled_kind, refusal}
use Rattle.volume.proofs.volume.Volume.send.Goals as goal
use Rattle.volume.proofs.volume.Volume.send.Goals.{After-self-1}

abbrev old : After-self-1 → PVolume
old c = volume c.self.inside.live c.self.inside.modified c.self.inside.snapshots

-- what the call was compiled to
made : (c : After-self-1) (k : Call) → Compiles (old c).live.indexes k c.args.at c.args.compiled → IsCompiled (old c).live.indexes k c.args.at c.in-Ok.reply (messages c.in-Ok.batch)
made c k h = subst (Compiles (old c).live.indexes k c.args.at) c.in-Ok.is h

pub invariant_of-self : goal.invariant_of-self
invariant_of-self c =
    let l = c.append_noted-appended.new.live in
    let k : Call = c.requires.0 in
    let asks : Asks (old c).live.indexes k c.args.at c.args.compiled c.args.in_root = subst (λ (v : PVolume). Asks v.live.indexes k c.args.at c.args.compiled c.args.in_root) (sym c.self.view_is) c.requires.1 in (
      subst (λ n. IsVolume (volume l n c.self.inside.snapshots))
          (ap (λ (b : Bool). after_call b (reply_to c.append_noted-appended.result c.in-Ok.reply) c.args.at c.self.inside.modified) (sym asks.root)
          ∙ ap (λ (r : Reply). after_call c.args.in_root r c.args.at c.self.inside.modified) (sym c.reply_to-reply.ensures)
          ∙ sym c.after_call-self-inside.ensures)
          (answered_lasts (old c) k c.args.at c.in-Ok.reply _ c.append_noted-appended.result l c.self.invariant.0 (made c k asks.compiles) c.append_noted-appended.ensures.appended c.assert_invariant.ensures),
      c.append_noted-appended.ensures.noted c.self.inside.snapshots c.self.invariant.1,
    )

pub returns-clause-called : goal.returns-clause-called
returns-clause-called c = λ k over.
    let l = c.append_noted-appended.new.live in
    let asks : Asks (old c).live.indexes k c.args.at c.args.compiled c.args.in_root = subst (λ (v : PVolume). Asks v.live.indexes k c.args.at c.args.compiled c.args.in_root) (sym c.self.view_is) over in
    subst (λ (v : PVolume). Called k c.args.at c.reply_to-reply.result v (volume l c.after_call-self-inside.result c.self.inside.snapshots)) c.self.view_is
    (subst (λ n. Called k c.args.at c.reply_to-reply.result (old c) (volume l n c.self.inside.snapshots))
    (ap (λ (b : Bool). after_call b c.reply_to-reply.result c.args.at c.self.inside.modified) (sym asks.root) ∙ sym c.after_call-self-inside.ensures)
    (subst (λ (r : Reply). Called k c.args.at r (old c) (volume l (after_call (touches_root k) r c.args.at c.self.inside.modified) c.self.inside.snapshots)) (sym c.reply_to-reply.ensures)
    (answered (old c) k c.args.at c.in-Ok.reply _ c.append_noted-appended.result l (made c k asks.compiles) c.append_noted-appended.ensures.appended)))

pub returns-clause-kind : goal.returns-clause-kind
returns-clause-kind c = λ k over.
    let h : Compiles (old c).live.indexes k c.args.at c.args.compiled = subst (λ (v : PVolume). Compiles v.live.indexes k c.args.at c.args.compiled) (sym c.self.view_is) over in
    subst (IsOfKind k) (sym c.reply_to-reply.ensures)
    (answered_kind k c.append_noted-appended.result c.in-Ok.reply (compiled_kind k c.args.at c.in-Ok.reply _ (old c).live.indexes c.self.invariant.0.world.live c.self.invariant.0.means.live.indexes (made c k h)))

pub returns-in_default-clause-called : goal.returns-in_default-clause-called
returns-in_default-clause-called c = λ k over. lacks_call c.args.self.now k c.args.at (live_of c.args.self.now) refl

pub returns-in_default-clause-kind : goal.returns-in_default-clause-kind
returns-in_default-clause-kind c = λ k over. refusal k ENOMEM
