use Rattle.std.proofs.Common.{refl, subst}
use Rattle.call_compiler.specs.Compiled.{messages}
use Rattle.pathkey.specs.declared.errno.Errno.TheVariants.{ENOMEM}
use Rattle.volume.specs.Typed.{Compiles}
use Rattle.volume.specs.Volumes.{live_of}
use Rattle.volume.proofs.Leading.{lacks_call}
use Rattle.volume.proofs.Typing.{compiled_kind, looked, refusal}
use Rattle.volume.proofs.volume.Volume.look.Goals as goal

pub returns-in-Ok-clause-called : goal.returns-in-Ok-clause-called
returns-in-Ok-clause-called c = λ k at l h. looked k at c.in-Ok.reply (messages c.in-Ok.field-0-1) c.args.self.now l (subst (Compiles c.args.self.now.live.indexes k at) c.in-Ok.is h)

pub returns-in-Ok-clause-kind : goal.returns-in-Ok-clause-kind
returns-in-Ok-clause-kind c = λ k at h.
    compiled_kind k at c.in-Ok.reply (messages c.in-Ok.field-0-1) c.args.self.now.live.indexes c.assert_invariant.ensures.world.live c.assert_invariant.ensures.means.live.indexes
    (subst (Compiles c.args.self.now.live.indexes k at) c.in-Ok.is h)

pub returns-clause-called : goal.returns-clause-called
returns-clause-called c = λ k at l h. lacks_call c.args.self.now k at (live_of c.args.self.now) refl

pub returns-clause-kind : goal.returns-clause-kind
returns-clause-kind c = λ k at h. refusal k ENOMEM
