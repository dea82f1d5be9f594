use Rattle.std.proofs.Common.{rules, ◌≡◌, ◌-◌, ap, sym, ◌∙◌, drop, length}
use Rattle.message.specs.Effects.{range_count}
use Rattle.point_ops.specs.PointOps.{left}
use Rattle.pending.proofs.Meaning.{count_sorted}
use Rattle.pending.proofs.sorted_msgs.SortedMsgs.range_deletes.Goals as goal

pub returns-clause-count : goal.returns-clause-count
returns-clause-count g c =
    let n = c.args.consumed in
    let rs = c.self.inside.ranges in
    let rest : c.saturating_sub.result ≡ length rs - n = search rules in
    rest ∙ sym (count_sorted n rs (left c.self.inside.consumed c.self.inside.points)) ∙ ap (λ ms. range_count (drop n ms)) c.self.view_is
