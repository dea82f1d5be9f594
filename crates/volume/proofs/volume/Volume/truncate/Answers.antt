use Rattle.std.proofs.Common.{refl, sym, subst}
use Rattle.call_compiler.specs.declared.indexes.Indexes.{Indexes}
use Rattle.reference.specs.declared.call.Call.TheVariants.{Truncate}
use Rattle.reference.specs.declared.reply.Reply.{Reply}
use Rattle.volume.specs.Changes.{Called}
use Rattle.volume.specs.Typed.{Compiles}
use Rattle.volume.proofs.volume.Volume.truncate.Goals as goal

pub send-requires : goal.send-requires
send-requires c = (Truncate c.args.path.now c.args.length, record { compiles = subst (λ (i : Indexes). Compiles i (Truncate c.args.path.now c.args.length) c.args.at c.truncate-compiled.result) c.indexes.ensures c.truncate-compiled.ensures; root = refl })

pub done_or_errno-requires : goal.done_or_errno-requires
done_or_errno-requires c = c.send.ensures.kind (Truncate c.args.path.now c.args.length) (subst (λ (i : Indexes). Compiles i (Truncate c.args.path.now c.args.length) c.args.at c.truncate-compiled.result) c.indexes.ensures c.truncate-compiled.ensures)

pub returns : goal.returns
returns c =
    subst (λ (r : Reply). Called (Truncate c.args.path.now c.args.length) c.args.at r c.args.self.now c.send.new.self) (sym c.done_or_errno.ensures)
    (c.send.ensures.called (Truncate c.args.path.now c.args.length) (record { compiles = subst (λ (i : Indexes). Compiles i (Truncate c.args.path.now c.args.length) c.args.at c.truncate-compiled.result) c.indexes.ensures c.truncate-compiled.ensures; root = refl }))
