use Rattle.std.proofs.Common.{ap, refl}
use Rattle.message.specs.declared.msg.Msg.TheVariants as msg
use Rattle.pending.specs.SortedMsgs.{sorted_msgs}
use Rattle.pending.proofs.Coming.{inserts_none, inserts_point}
use Rattle.pending.proofs.insert.insert.Goals as goal

pub returns-in-Ok-clause-takes : goal.returns-in-Ok-clause-takes
returns-in-Ok-clause-takes g c = inserts_point g.U.Update.means (msg.Put c.in-Put.key c.in-Put.value) c.args.msg c.args.ranges.now c.args.points.now c.put.new.self c.in-Put.key c.in-Put.is c.assert_invariant.ensures.rises c.assert_invariant-in-Ok.ensures.rises c.assert_invariant.ensures.runs (λ q. refl) c.in-Ok.ensures.inserts c.in-Ok.ensures.bound

pub returns-in-Err-clause-refused : goal.returns-in-Err-clause-refused
returns-in-Err-clause-refused g c =
    let rs = c.args.ranges.now in
    inserts_none g.U.Update.means c.args.msg (sorted_msgs rs c.args.points.now) (sorted_msgs rs c.put.new.self) (ap (λ t. sorted_msgs rs t) c.in-Err.ensures.unchanged)

pub returns-in-Ok-del-clause-takes : goal.returns-in-Ok-del-clause-takes
returns-in-Ok-del-clause-takes g c = inserts_point g.U.Update.means (msg.Del c.in-Del.key) c.args.msg c.args.ranges.now c.args.points.now c.del.new.self c.in-Del.key c.in-Del.is c.assert_invariant.ensures.rises c.assert_invariant-in-Ok-del.ensures.rises c.assert_invariant.ensures.runs (λ q. refl) c.in-Ok-del.ensures.inserts c.in-Ok-del.ensures.bound

pub returns-in-Err-del-clause-refused : goal.returns-in-Err-del-clause-refused
returns-in-Err-del-clause-refused g c =
    let rs = c.args.ranges.now in
    inserts_none g.U.Update.means c.args.msg (sorted_msgs rs c.args.points.now) (sorted_msgs rs c.del.new.self) (ap (λ t. sorted_msgs rs t) c.in-Err-del.ensures.unchanged)

pub returns-in-Ok-edit-clause-takes : goal.returns-in-Ok-edit-clause-takes
returns-in-Ok-edit-clause-takes g c = inserts_point g.U.Update.means (msg.Edit c.in-Edit.key c.in-Edit.update) c.args.msg c.args.ranges.now c.args.points.now c.edit.new.self c.in-Edit.key c.in-Edit.is c.assert_invariant.ensures.rises c.assert_invariant-in-Ok-edit.ensures.rises c.assert_invariant.ensures.runs (λ q. refl) c.in-Ok-edit.ensures.inserts c.in-Ok-edit.ensures.bound

pub returns-in-Err-edit-clause-refused : goal.returns-in-Err-edit-clause-refused
returns-in-Err-edit-clause-refused g c =
    let rs = c.args.ranges.now in
    inserts_none g.U.Update.means c.args.msg (sorted_msgs rs c.args.points.now) (sorted_msgs rs c.edit.new.self) (ap (λ t. sorted_msgs rs t) c.in-Err-edit.ensures.unchanged)
