use Rattle.std.proofs.Common.{refl, subst}
use Rattle.message.specs.declared.msg.Msg.TheVariants as msg
use Rattle.point_ops.specs.PointOps.{point_msgs}
use Rattle.pending.specs.SortedMsgs.{IsFirstEdit}
use Rattle.pending.proofs.Coming.{inserts_point}
use Rattle.pending.proofs.Stretching.{absent_from}
use Rattle.pending.proofs.insert.insert_first.Goals as goal

pub edit_absent-requires-clause-absent : goal.edit_absent-requires-clause-absent
edit_absent-requires-clause-absent g c = absent_from c.args.points.now c.in-Edit.key c.assert_invariant.ensures.runs (subst (λ m. IsFirstEdit m (point_msgs c.args.points.now)) c.in-Edit.is c.requires.first)

pub returns-in-Ok-clause-takes : goal.returns-in-Ok-clause-takes
returns-in-Ok-clause-takes g c = λ rs. inserts_point g.U.Update.means (msg.Edit c.in-Edit.key c.in-Edit.update) c.args.msg rs c.args.points.now c.edit_absent.new.self c.in-Edit.key c.in-Edit.is c.assert_invariant.ensures.rises c.assert_invariant-in-Ok.ensures.rises c.assert_invariant.ensures.runs (λ q. refl) c.in-Ok.ensures.inserts c.in-Ok.ensures.bound
