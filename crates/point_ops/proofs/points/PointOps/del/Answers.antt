use Rattle.std.proofs.Common.{ap, None}
use Rattle.point_ops.specs.Changes.{run_effect}
use Rattle.point_ops.proofs.Laying.{inserts_put}
use Rattle.point_ops.proofs.points.PointOps.del.Goals as goal

pub returns-in-Ok-clause-inserts : goal.returns-in-Ok-clause-inserts
returns-in-Ok-clause-inserts g c =
    let means = g.U.Update.means in
    inserts_put means c.args.key (λ o. None) c.del.result c.args.self.now c.overwrite.new.self c.in-Ok.ensures.entries (λ o. ap (λ t. run_effect means t o) c.del.ensures)
