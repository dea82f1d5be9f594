use Rattle.std.proofs.Common.{◌≡◌, ap, sym, ◌∙◌, subst, arith}
use Rattle.point_ops.specs.PointOps.{point_count}
use Rattle.pending.specs.SortedMsgs.{sorted_msgs, JoinsMsg}
use Rattle.pending.proofs.Runs.{left_whole, none_left}
use Rattle.pending.proofs.sorted_msgs.SortedMsgs.join.Goals as goal

pub invariant_of-self : goal.invariant_of-self
invariant_of-self g c =
    let n = c.self.inside.consumed in
    let es = c.self.inside.points in
    let fs = c.join-joined.new.points in
    let zero : n ≡ 0 = omega (arith, c.if-self-gt0.false) in
    record {
      some = none_left n fs zero c.assert_invariant.ensures.runs;
      small = omega (arith, c.self.invariant.small, ap (λ t. point_count t) (left_whole n es zero), ap (λ t. point_count t) (left_whole n fs zero), c.join-joined.ensures.count);
    }

pub returns : goal.returns
returns g c =
    let means = g.U.Update.means in
    let n = c.self.inside.consumed in
    let rs = c.self.inside.ranges in
    let es = c.self.inside.points in
    let fs = c.join-joined.new.points in
    let j = c.join-joined.result in
    let m = c.args.msg.now in
    let zero : n ≡ 0 = omega (arith, c.if-self-gt0.false) in
    let old : sorted_msgs rs es ≡ c.args.self.now = ap (λ t. sorted_msgs rs t) (sym (left_whole n es zero)) ∙ c.self.view_is in
    let joined : JoinsMsg means j m (sorted_msgs rs es) (sorted_msgs rs fs) = c.join-joined.ensures.joined rs in
    subst (λ t. JoinsMsg means j m c.args.self.now (sorted_msgs rs t)) (sym (left_whole n fs zero)) (subst (λ t. JoinsMsg means j m t (sorted_msgs rs fs)) old joined)
