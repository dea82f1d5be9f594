use Rattle.std.proofs.Common.{sym, subst}
use Rattle.reference.specs.declared.call.Call.TheVariants.{Read}
use Rattle.reference.specs.declared.reply.Reply.{Reply}
use Rattle.volume.specs.HistoryOf.{Tells}
use Rattle.volume.proofs.Typing.{reported_kind}
use Rattle.volume.proofs.frozen.Frozen.try_read.Goals as goal

pub data-requires : goal.data-requires
data-requires c = reported_kind (Read c.args.path.now c.args.offset c.args.count) c.read.result c.args.self.now c.assert_invariant.ensures c.read.ensures

pub returns : goal.returns
returns c = subst (λ (r : Reply). Tells (Read c.args.path.now c.args.offset c.args.count) r c.args.self.now) (sym c.data.ensures) c.read.ensures
