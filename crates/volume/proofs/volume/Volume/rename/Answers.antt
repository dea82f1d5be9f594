use Rattle.std.proofs.Common.{sym, subst}
use Rattle.call_compiler.specs.declared.indexes.Indexes.{Indexes}
use Rattle.reference.specs.declared.call.Call.TheVariants.{Rename}
use Rattle.reference.specs.declared.reply.Reply.{Reply}
use Rattle.volume.specs.Changes.{Called}
use Rattle.volume.specs.Typed.{Compiles}
use Rattle.volume.proofs.volume.Volume.rename.Goals as goal

pub send-requires : goal.send-requires
send-requires c = (Rename c.args.old.now c.args.new.now, record { compiles = subst (λ (i : Indexes). Compiles i (Rename c.args.old.now c.args.new.now) c.args.at c.rename-compiled.result) c.indexes.ensures c.rename-compiled.ensures; root = c.renames_root_child.ensures })

pub done_or_errno-requires : goal.done_or_errno-requires
done_or_errno-requires c = c.send.ensures.kind (Rename c.args.old.now c.args.new.now) (subst (λ (i : Indexes). Compiles i (Rename c.args.old.now c.args.new.now) c.args.at c.rename-compiled.result) c.indexes.ensures c.rename-compiled.ensures)

pub returns : goal.returns
returns c =
    subst (λ (r : Reply). Called (Rename c.args.old.now c.args.new.now) c.args.at r c.args.self.now c.send.new.self) (sym c.done_or_errno.ensures)
    (c.send.ensures.called (Rename c.args.old.now c.args.new.now) (record { compiles = subst (λ (i : Indexes). Compiles i (Rename c.args.old.now c.args.new.now) c.args.at c.rename-compiled.result) c.indexes.ensures c.rename-compiled.ensures; root = c.renames_root_child.ensures }))
