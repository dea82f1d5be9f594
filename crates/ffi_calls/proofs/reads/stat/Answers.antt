use Rattle.pathkey.specs.Texts.{parsed}
use Rattle.reference.specs.declared.call.Call.TheVariants.{Stat as AskStat}
use Rattle.volume.specs.HistoryOf.{Tells}
use Rattle.ffi_calls.specs.Reads.{stat_reply}
use Rattle.ffi_calls.proofs.Looking.{on_path, root_tells}
use Rattle.ffi_calls.proofs.reads.stat.Goals as goal

pub returns : goal.returns
returns c =
    let p = c.in_ok-path.path in
    on_path (parsed c.args.path.now) p c.stat_at.result (λ q. Tells (AskStat q) (stat_reply c.stat_at.result) c.args.volume.now.live) c.in_ok-path.ensures
    (root_tells c.indexes.result.now c.args.volume.now.live c.indexes.ensures (AskStat p) (stat_reply c.stat_at.result) c.stat_at.ensures)
