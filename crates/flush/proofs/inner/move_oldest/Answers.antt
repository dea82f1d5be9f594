use Rattle.std.proofs.Common.{ap}
use Rattle.std.proofs.lemmas.Result.{on_err_weaker}
use Rattle.node.specs.Pure.{slots}
use Rattle.node.specs.See.{seen_slots}
use Rattle.node.proofs.Wholes.{see-pending}
use Rattle.flush.proofs.Moves.{moved-none, moved_run}
use Rattle.flush.proofs.inner.move_oldest.Goals as goal

pub returns-in_default-clause-moved : goal.returns-in_default-clause-moved
returns-in_default-clause-moved g c = moved-none g.U.Update.means c.args.list.now.0 (seen_slots c.args.below.now)

pub returns-in_default-holder-clause-moved : goal.returns-in_default-holder-clause-moved
returns-in_default-holder-clause-moved g c = moved-none g.U.Update.means c.args.list.now.0 (seen_slots c.args.below.now)

pub returns-clause-moved : goal.returns-clause-moved
returns-clause-moved g c =
    let sunk = c.flush_oldest.ensures in
    moved_run g.U.Update.means c.in-Some.key.now c.args.below.now c.in-Some-holder.i c.index-below-i.result c.flush_oldest.new.to c.args.most c.args.list.now.0 c.flush_oldest.new.self.0 c.flush_oldest.result c.requires c.in-Some-holder.ensures.number c.in-Some-holder.ensures.bound c.in-Some.ensures sunk.takes sunk.left sunk.within sunk.alike sunk.still

pub returns-clause-kept : goal.returns-clause-kept
returns-clause-kept g c = on_err_weaker c.flush_oldest.result (λ k. (k.0, ap slots (see-pending c.args.below.now c.in-Some-holder.i c.index-below-i.result c.flush_oldest.new.to k.1))) c.flush_oldest.ensures.err
