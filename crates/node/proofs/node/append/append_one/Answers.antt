use Rattle.node.proofs.Homes.{one_appended, one_refused}
use Rattle.node.proofs.node.append.append_one.Goals as goal

pub returns-clause-ok : goal.returns-clause-ok
returns-clause-ok g c = one_appended c.push-2.result c.args.msg c.args.slots.now c.in-Some.i c.index-slots-i.result c.push-2.new.pending g.U.Update.means c.in-Some.ensures.home c.in-Some.ensures.bound c.push-2.ensures.ok

pub returns-clause-err : goal.returns-clause-err
returns-clause-err g c = one_refused c.push-2.result c.args.slots.now c.in-Some.i c.index-slots-i.result c.push-2.new.pending c.push-2.ensures.err
