use Rattle.std.proofs.Common.{length}
use Rattle.pathkey.specs.Texts.{parsed}
use Rattle.reference.specs.declared.call.Call.TheVariants.{Read}
use Rattle.volume.specs.HistoryOf.{Tells}
use Rattle.ffi_calls.specs.Reads.{read_reply}
use Rattle.ffi_calls.proofs.Looking.{on_path, root_tells}
use Rattle.ffi_calls.proofs.reads.read.Goals as goal

pub returns-clause-reply : goal.returns-clause-reply
returns-clause-reply c =
    let p = c.in_ok-path.path in
    let reply = read_reply c.read_at.result c.read_at.new.out in
    on_path (parsed c.args.path.now) p c.read_at.result (λ q. Tells (Read q c.args.offset (length c.args.out.now)) reply c.args.volume.now.live) c.in_ok-path.ensures
    (root_tells c.indexes.result.now c.args.volume.now.live c.indexes.ensures (Read p c.args.offset (length c.args.out.now)) reply c.read_at.ensures.reply)
