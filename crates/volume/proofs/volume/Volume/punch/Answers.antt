use Rattle.std.proofs.Common.{sym, subst}
use Rattle.call_compiler.specs.declared.indexes.Indexes.{Indexes}
use Rattle.reference.specs.declared.reply.Reply.{Reply}
use Rattle.volume.specs.Holes.{Compiles, Punches}
use Rattle.volume.proofs.volume.Volume.punch.Goals as goal

pub send_zeros-requires : goal.send_zeros-requires
send_zeros-requires c = (c.args.path.now, c.args.offset, c.args.count, c.args.at, subst (λ (i : Indexes). Compiles i c.args.path.now c.args.offset c.args.count c.args.at c.punch-compiled.result) c.indexes.ensures c.punch-compiled.ensures)

pub counted-requires : goal.counted-requires
counted-requires c = c.send_zeros.ensures.count c.args.path.now c.args.offset c.args.count c.args.at (subst (λ (i : Indexes). Compiles i c.args.path.now c.args.offset c.args.count c.args.at c.punch-compiled.result) c.indexes.ensures c.punch-compiled.ensures)

pub returns : goal.returns
returns c =
    subst (λ (r : Reply). Punches c.args.path.now c.args.offset c.args.count c.args.at r c.args.self.now c.send_zeros.new.self) (sym c.counted.ensures)
    (c.send_zeros.ensures.punches c.args.path.now c.args.offset c.args.count c.args.at (subst (λ (i : Indexes). Compiles i c.args.path.now c.args.offset c.args.count c.args.at c.punch-compiled.result) c.indexes.ensures c.punch-compiled.ensures))
