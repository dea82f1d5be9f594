use Rattle.std.proofs.Common.{◌∙◌}
use Rattle.reference.specs.Tree.{entry_at}
use Rattle.reference.specs.declared.call.Call.TheVariants.{Stat as AskStat}
use Rattle.call_compiler.specs.Compiled.{messages}
use Rattle.call_compiler.proofs.Compiling.{meta_meant, compiled_kept}
use Rattle.call_compiler.proofs.Replies.{stat_replies, stat_keeps}
use Rattle.call_compiler.proofs.read.stat.Goals as goal

pub returns : goal.returns
returns c = λ at. compiled_kept c.args.indexes.now (AskStat c.args.path.now) at c.without_messages.result.0 (messages c.without_messages.result.1)
    (λ t means. c.without_messages.ensures.reply ∙ c.reply_of.ensures (entry_at t c.args.path.now) (c.in_ok-at.ensures.reported t (meta_meant c.args.indexes.now t means)) ∙ stat_replies at t c.args.path.now)
    (λ t means. stat_keeps at t c.args.path.now)
    c.without_messages.ensures.messages
