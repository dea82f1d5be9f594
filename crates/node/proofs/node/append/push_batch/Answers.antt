use Rattle.message.proofs.Lists.{takes-append}
use Rattle.node.proofs.node.append.push_batch.Goals as goal

pub returns-then-plain-clause-takes : goal.returns-then-plain-clause-takes
returns-then-plain-clause-takes g c = rw (c.append_uncondensed.ensures.messages) (takes-append g.U.Update.means c.args.pending.now.0 c.args.slot_batch.now.items)
