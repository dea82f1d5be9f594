use Rattle.std.proofs.Common.{sym, subst}
use Rattle.reference.specs.declared.call.Call.TheVariants.{Stat as AskStat}
use Rattle.reference.specs.declared.reply.Reply.{Reply}
use Rattle.volume.specs.HistoryOf.{Tells}
use Rattle.volume.proofs.Typing.{reported_kind}
use Rattle.volume.proofs.frozen.Frozen.try_stat.Goals as goal

pub status-requires : goal.status-requires
status-requires c = reported_kind (AskStat c.args.path.now) c.stat.result c.args.self.now c.assert_invariant.ensures c.stat.ensures.reply

pub returns : goal.returns
returns c = subst (λ (r : Reply). Tells (AskStat c.args.path.now) r c.args.self.now) (sym c.status.ensures) c.stat.ensures.reply
