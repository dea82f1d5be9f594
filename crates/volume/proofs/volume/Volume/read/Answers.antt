use Rattle.std.proofs.Common.{sym, subst}
use Rattle.call_compiler.specs.declared.indexes.Indexes.{Indexes}
use Rattle.reference.specs.declared.call.Call.TheVariants.{Read}
use Rattle.reference.specs.declared.reply.Reply.{Reply}
use Rattle.volume.specs.Changes.{Called}
use Rattle.volume.specs.Typed.{Compiles}
use Rattle.volume.proofs.volume.Volume.read.Goals as goal

pub data-requires : goal.data-requires
data-requires c = c.look.ensures.kind (Read c.args.path.now c.args.offset c.args.count) 0 (subst (λ (i : Indexes). Compiles i (Read c.args.path.now c.args.offset c.args.count) 0 c.read-compiled.result) c.indexes.ensures (c.read-compiled.ensures 0))

pub returns : goal.returns
returns c = λ at.
    subst (λ (r : Reply). Called (Read c.args.path.now c.args.offset c.args.count) at r c.args.self.now c.args.self.now) (sym c.data.ensures)
    (c.look.ensures.called (Read c.args.path.now c.args.offset c.args.count) at tt (subst (λ (i : Indexes). Compiles i (Read c.args.path.now c.args.offset c.args.count) at c.read-compiled.result) c.indexes.ensures (c.read-compiled.ensures at)))
