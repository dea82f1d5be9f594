use Rattle.pending.proofs.Coming.{joins_count, joins_msg}
use Rattle.pending.proofs.insert.join.Goals as goal

pub returns-clause-joined : goal.returns-clause-joined
returns-clause-joined g c = λ rs. joins_msg g.U.Update.means c.join-joined.result c.args.msg.now rs c.args.points.now c.join-joined.new.self c.in-Edit.key c.in-Edit.update c.in-Edit.is c.assert_invariant.ensures.rises c.assert_invariant-2.ensures.rises c.assert_invariant.ensures.runs c.join-joined.ensures

pub returns-clause-count : goal.returns-clause-count
returns-clause-count g c = joins_count g.U.Update.means c.join-joined.result c.args.points.now c.join-joined.new.self c.in-Edit.key c.in-Edit.update c.join-joined.ensures
