use Rattle.std.proofs.Common.{sym, subst}
use Rattle.call_compiler.specs.declared.indexes.Indexes.{Indexes}
use Rattle.reference.specs.declared.reply.Reply.{Reply}
use Rattle.volume.specs.Copies.{Compiles, Copies}
use Rattle.volume.proofs.volume.Volume.copy_range.Goals as goal

pub send_copied-requires : goal.send_copied-requires
send_copied-requires c =
    let compiles = subst (λ (i : Indexes). Compiles i c.args.from.now c.args.offset c.args.to.now c.args.target c.args.count c.args.at c.copy_range-compiled.result) c.indexes.ensures c.copy_range-compiled.ensures in
    (c.args.from.now, c.args.offset, c.args.to.now, c.args.target, c.args.count, c.args.at, compiles)

pub counted-requires : goal.counted-requires
counted-requires c =
    let compiles = subst (λ (i : Indexes). Compiles i c.args.from.now c.args.offset c.args.to.now c.args.target c.args.count c.args.at c.copy_range-compiled.result) c.indexes.ensures c.copy_range-compiled.ensures in
    c.send_copied.ensures.count c.args.from.now c.args.offset c.args.to.now c.args.target c.args.count c.args.at compiles

pub returns : goal.returns
returns c =
    let compiles = subst (λ (i : Indexes). Compiles i c.args.from.now c.args.offset c.args.to.now c.args.target c.args.count c.args.at c.copy_range-compiled.result) c.indexes.ensures c.copy_range-compiled.ensures in
    subst (λ (r : Reply). Copies c.args.from.now c.args.offset c.args.to.now c.args.target c.args.count c.args.at r c.args.self.now c.send_copied.new.self) (sym c.counted.ensures)
    (c.send_copied.ensures.copies c.args.from.now c.args.offset c.args.to.now c.args.target c.args.count c.args.at compiles)
