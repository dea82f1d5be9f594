use Rattle.std.proofs.Common.{refl, sym, subst}
use Rattle.call_compiler.specs.declared.indexes.Indexes.{Indexes}
use Rattle.reference.specs.declared.call.Call.TheVariants.{Write}
use Rattle.reference.specs.declared.reply.Reply.{Reply}
use Rattle.volume.specs.Changes.{Called}
use Rattle.volume.specs.Typed.{Compiles}
use Rattle.volume.proofs.volume.Volume.write_shared.Goals as goal

pub send-requires : goal.send-requires
send-requires c = (Write c.args.path.now c.args.offset c.args.bytes.now, record { compiles = subst (λ (i : Indexes). Compiles i (Write c.args.path.now c.args.offset c.args.bytes.now) c.args.at c.write-compiled.result) c.indexes.ensures c.write-compiled.ensures; root = refl })

pub counted-requires : goal.counted-requires
counted-requires c = c.send.ensures.kind (Write c.args.path.now c.args.offset c.args.bytes.now) (subst (λ (i : Indexes). Compiles i (Write c.args.path.now c.args.offset c.args.bytes.now) c.args.at c.write-compiled.result) c.indexes.ensures c.write-compiled.ensures)

pub returns : goal.returns
returns c =
    subst (λ (r : Reply). Called (Write c.args.path.now c.args.offset c.args.bytes.now) c.args.at r c.args.self.now c.send.new.self) (sym c.counted.ensures)
    (c.send.ensures.called (Write c.args.path.now c.args.offset c.args.bytes.now) (record { compiles = subst (λ (i : Indexes). Compiles i (Write c.args.path.now c.args.offset c.args.bytes.now) c.args.at c.write-compiled.result) c.indexes.ensures c.write-compiled.ensures; root = refl }))
