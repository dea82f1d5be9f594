use Rattle.std.proofs.Common.{[], ◌∷◌}
use Rattle.message.proofs.Lists.{takes-append}
use Rattle.node.proofs.node.append.push_msg.Goals as goal

pub returns-then-plain-clause-takes : goal.returns-then-plain-clause-takes
returns-then-plain-clause-takes g c = rw (c.push_uncondensed.ensures.messages) (takes-append g.U.Update.means c.args.pending.now.0 (c.args.msg ∷ []))
