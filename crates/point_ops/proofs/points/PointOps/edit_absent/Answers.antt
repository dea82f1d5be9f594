use Rattle.std.proofs.Common.{◌∙◌, ap, sym}
use Rattle.point_ops.specs.Changes.{run_effect}
use Rattle.point_ops.specs.PointOps.{found_effect}
use Rattle.point_ops.proofs.Laying.{inserts_put}
use Rattle.point_ops.proofs.points.PointOps.edit_absent.Goals as goal

pub returns-in-Ok-clause-inserts : goal.returns-in-Ok-clause-inserts
returns-in-Ok-clause-inserts g c =
    let means = g.U.Update.means in
    let u = c.args.update in
    let k = c.args.key in
    inserts_put means k (means u) c.of_edit.result c.args.self.now c.overwrite.new.self c.in-Ok.ensures.entries (λ o. ap (λ t. run_effect means t o) c.of_edit.ensures ∙ sym (ap (λ t. means u (found_effect means t o)) c.requires.absent))
