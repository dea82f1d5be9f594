use Rattle.std.proofs.Common.{sym, subst}
use Rattle.call_compiler.specs.declared.indexes.Indexes.{Indexes}
use Rattle.reference.specs.declared.call.Call.TheVariants.{Stat as AskStat}
use Rattle.reference.specs.declared.reply.Reply.{Reply}
use Rattle.volume.specs.Changes.{Called}
use Rattle.volume.specs.Typed.{Compiles}
use Rattle.volume.proofs.volume.Volume.stat.Goals as goal

pub status-requires : goal.status-requires
status-requires c = c.look.ensures.kind (AskStat c.args.path.now) 0 (subst (λ (i : Indexes). Compiles i (AskStat c.args.path.now) 0 c.stat-compiled.result) c.indexes.ensures (c.stat-compiled.ensures 0))

pub returns : goal.returns
returns c = λ at.
    subst (λ (r : Reply). Called (AskStat c.args.path.now) at r c.args.self.now c.args.self.now) (sym c.status.ensures)
    (c.look.ensures.called (AskStat c.args.path.now) at tt (subst (λ (i : Indexes). Compiles i (AskStat c.args.path.now) at c.stat-compiled.result) c.indexes.ensures (c.stat-compiled.ensures at)))
