use Rattle.std.proofs.Common.{subst, take, arith}
use Rattle.point_ops.specs.PointOps.{point_msgs}
use Rattle.node.proofs.Applying.{rising_applied}
use Rattle.flush.specs.Merge.{IsFilled}
use Rattle.flush.proofs.Keyed.{rest_next}
use Rattle.flush.proofs.Merging.{filled_then}
use Rattle.flush.proofs.apply_pass.search_along.Goals as goal

pub returns-then-more-len-clause-filled : goal.returns-then-more-len-clause-filled
returns-then-more-len-clause-filled g c =
    let means = g.U.Update.means in
    let most = c.args.most in
    let mid = c.loop-key.entries.items in
    let new = c.apply_key-more.new.entries.items in
    let next = subst (λ ms. IsFilled means most ms c.apply_key-more.result mid new) c.loop-key.invariant.rest c.apply_key-more.ensures.filled in
    filled_then means most (point_msgs c.args.walk) c.loop-key.count c.apply_key-more.result c.args.entries.now.items mid new c.loop-key.invariant.filled next

pub loop-key-preserved : goal.loop-key-preserved
loop-key-preserved g c =
    let means = g.U.Update.means in
    let most = c.args.most in
    let more = c.apply_key-more.result in
    let mid = c.loop-key.entries.items in
    let new = c.apply_key-more.new.entries.items in
    let did = c.apply_key-more.ensures in
    let next = subst (λ ms. IsFilled means most ms more mid new) c.loop-key.invariant.rest did.filled in
    record {
      filled = filled_then means most (point_msgs c.args.walk) c.loop-key.count more c.args.entries.now.items mid new c.loop-key.invariant.filled next;
      rest = rest_next c.loop-key.walk c.pass.new.self (point_msgs c.args.walk) c.loop-key.count more c.pass.ensures c.loop-key.invariant.rest (omega (arith, c.in-Some.ensures.len.0, did.within, c.min.ensures, c.if-more-len.false));
      rising = rising_applied means (take more (point_msgs c.loop-key.walk)) mid new did.filled.applied c.loop-key.invariant.rising;
      small = omega (arith, c.if-count-few.false, did.within, c.min.ensures);
    }
