use Rattle.std.proofs.Common.{ap, sym, ◌∙◌}
use Rattle.message.specs.PointKeys.{is_cleared}
use Rattle.point_ops.specs.PointOps.{left}
use Rattle.pending.proofs.Stretching.{sorted_clears}
use Rattle.pending.proofs.sorted_msgs.SortedMsgs.is_range_deleted.Goals as goal

pub returns : goal.returns
returns g c = c.is_covered.ensures ∙ sym (sorted_clears c.self.inside.ranges (left c.self.inside.consumed c.self.inside.points) c.args.key.now) ∙ ap (λ ms. is_cleared ms c.args.key.now) c.self.view_is
