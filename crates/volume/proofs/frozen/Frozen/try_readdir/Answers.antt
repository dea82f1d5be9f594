use Rattle.std.proofs.Common.{sym, subst}
use Rattle.reference.specs.declared.call.Call.TheVariants.{Readdir}
use Rattle.reference.specs.declared.reply.Reply.{Reply}
use Rattle.volume.specs.HistoryOf.{Tells}
use Rattle.volume.proofs.Typing.{reported_kind}
use Rattle.volume.proofs.frozen.Frozen.try_readdir.Goals as goal

pub names-requires : goal.names-requires
names-requires c = reported_kind (Readdir c.args.path.now) c.readdir.result c.args.self.now c.assert_invariant.ensures c.readdir.ensures

pub returns : goal.returns
returns c = subst (λ (r : Reply). Tells (Readdir c.args.path.now) r c.args.self.now) (sym c.names.ensures) c.readdir.ensures
