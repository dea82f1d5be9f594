use Rattle.std.proofs.Common.{subst}
use Rattle.std.specs.Option.{option_copied}
use Rattle.message.specs.PointKeys.{IsClearStretch}
use Rattle.point_ops.specs.PointOps.{left}
use Rattle.pending.proofs.Stretching.{sorted_stretch}
use Rattle.pending.proofs.sorted_msgs.SortedMsgs.range_deleted_until.Goals as goal

pub returns : goal.returns
returns g c =
    let from = c.args.from.now in
    let end = option_copied c.args.end in
    let stop = option_copied c.segment_end.result in
    subst (λ ms. IsClearStretch ms from end stop) c.self.view_is (sorted_stretch c.self.inside.ranges (left c.self.inside.consumed c.self.inside.points) from end stop c.segment_end.ensures)
