use Rattle.std.proofs.Common.{sym, subst}
use Rattle.call_compiler.specs.declared.indexes.Indexes.{Indexes}
use Rattle.reference.specs.declared.call.Call.TheVariants.{Mkdir}
use Rattle.reference.specs.declared.reply.Reply.{Reply}
use Rattle.volume.specs.Changes.{Called}
use Rattle.volume.specs.Typed.{Compiles}
use Rattle.volume.proofs.volume.Volume.mkdir.Goals as goal

pub send-requires : goal.send-requires
send-requires c = (Mkdir c.args.path.now, record { compiles = subst (λ (i : Indexes). Compiles i (Mkdir c.args.path.now) c.args.at c.mkdir-compiled.result) c.indexes.ensures c.mkdir-compiled.ensures; root = c.is_root_child.ensures })

pub done_or_errno-requires : goal.done_or_errno-requires
done_or_errno-requires c = c.send.ensures.kind (Mkdir c.args.path.now) (subst (λ (i : Indexes). Compiles i (Mkdir c.args.path.now) c.args.at c.mkdir-compiled.result) c.indexes.ensures c.mkdir-compiled.ensures)

pub returns : goal.returns
returns c =
    subst (λ (r : Reply). Called (Mkdir c.args.path.now) c.args.at r c.args.self.now c.send.new.self) (sym c.done_or_errno.ensures)
    (c.send.ensures.called (Mkdir c.args.path.now) (record { compiles = subst (λ (i : Indexes). Compiles i (Mkdir c.args.path.now) c.args.at c.mkdir-compiled.result) c.indexes.ensures c.mkdir-compiled.ensures; root = c.is_root_child.ensures }))
