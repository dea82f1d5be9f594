use Rattle.std.proofs.Common.{sym, subst}
use Rattle.call_compiler.specs.declared.indexes.Indexes.{Indexes}
use Rattle.reference.specs.declared.call.Call.TheVariants.{Readdir}
use Rattle.reference.specs.declared.reply.Reply.{Reply}
use Rattle.volume.specs.Changes.{Called}
use Rattle.volume.specs.Typed.{Compiles}
use Rattle.volume.proofs.volume.Volume.readdir.Goals as goal

pub names-requires : goal.names-requires
names-requires c = c.look.ensures.kind (Readdir c.args.path.now) 0 (subst (λ (i : Indexes). Compiles i (Readdir c.args.path.now) 0 c.readdir-compiled.result) c.indexes.ensures (c.readdir-compiled.ensures 0))

pub returns : goal.returns
returns c = λ at.
    subst (λ (r : Reply). Called (Readdir c.args.path.now) at r c.args.self.now c.args.self.now) (sym c.names.ensures)
    (c.look.ensures.called (Readdir c.args.path.now) at tt (subst (λ (i : Indexes). Compiles i (Readdir c.args.path.now) at c.readdir-compiled.result) c.indexes.ensures (c.readdir-compiled.ensures at)))
