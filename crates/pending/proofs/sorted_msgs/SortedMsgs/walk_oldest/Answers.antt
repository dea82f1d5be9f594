use Rattle.std.proofs.Common.{◌≡◌, [], ap, sym, ◌∙◌, arith}
use Rattle.std.proofs.lemmas.List.{nil_from_length}
use Rattle.point_ops.specs.PointOps.{left, point_msgs}
use Rattle.pending.specs.SortedMsgs.{sorted_msgs}
use Rattle.pending.proofs.Runs.{left_whole}
use Rattle.pending.proofs.sorted_msgs.SortedMsgs.walk_oldest.Goals as goal

pub returns : goal.returns
returns g c =
    let rs = c.self.inside.ranges in
    let es = c.self.inside.points in
    let n = c.self.inside.consumed in
    let none : rs ≡ [] = nil_from_length rs (omega (arith, c.len.ensures, c.if-len-gt0.false)) in
    let whole : left n es ≡ es = left_whole n es (omega (arith, c.if-self-gt0.false)) in
    ap (λ t. point_msgs t) (c.walk-rest.ensures.list ∙ sym whole) ∙ sym (ap (λ t. sorted_msgs t (left n es)) none) ∙ c.self.view_is
