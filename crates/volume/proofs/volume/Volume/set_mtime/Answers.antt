use Rattle.std.proofs.Common.{sym, subst}
use Rattle.call_compiler.specs.declared.indexes.Indexes.{Indexes}
use Rattle.reference.specs.declared.reply.Reply.{Reply}
use Rattle.volume.specs.Mtimes.{Asks, Compiles, SetsMtime}
use Rattle.volume.proofs.volume.Volume.set_mtime.Goals as goal

pub send_mtime-requires : goal.send_mtime-requires
send_mtime-requires c = (c.args.path.now, record { compiles = subst (λ (i : Indexes). Compiles i c.args.path.now c.args.at c.set_mtime-compiled.result) c.indexes.ensures c.set_mtime-compiled.ensures; is_root = c.is_root.ensures })

pub done_or_errno-requires : goal.done_or_errno-requires
done_or_errno-requires c = c.send_mtime.ensures.settled

pub returns : goal.returns
returns c =
    subst (λ (r : Reply). SetsMtime c.args.path.now c.args.at r c.args.self.now c.send_mtime.new.self) (sym c.done_or_errno.ensures)
    (c.send_mtime.ensures.sets c.args.path.now (record { compiles = subst (λ (i : Indexes). Compiles i c.args.path.now c.args.at c.set_mtime-compiled.result) c.indexes.ensures c.set_mtime-compiled.ensures; is_root = c.is_root.ensures }))
