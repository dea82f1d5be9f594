use Rattle.std.proofs.Common.{◌++◌, [], None, sym, subst, take, arith}
use Rattle.point_ops.specs.PointOps.{point_msgs}
use Rattle.node.specs.Lawful.{first_key, Rises}
use Rattle.node.proofs.Applying.{rising_applied}
use Rattle.flush.specs.Merge.{IsFilled}
use Rattle.flush.proofs.Keyed.{rest_next}
use Rattle.flush.proofs.Merging.{filled_then}
use Rattle.flush.proofs.apply_pass.pass_along.Goals as goal

pub returns-then-more-len-clause-filled : goal.returns-then-more-len-clause-filled
returns-then-more-len-clause-filled g c =
    let means = g.U.Update.means in
    let room = c.args.room in
    let mid = c.loop-key.done.items ++ c.loop-key.left.items in
    let new = c.apply_next-more.new.done.items ++ c.apply_next-more.new.left.items in
    let next = subst (λ ms. IsFilled means room ms c.apply_next-more.result mid new) c.loop-key.invariant.rest c.apply_next-more.ensures.filled in
    filled_then means room (point_msgs c.args.walk) c.loop-key.count c.apply_next-more.result c.args.left.now.items mid new c.loop-key.invariant.filled next

pub loop-key-preserved : goal.loop-key-preserved
loop-key-preserved g c =
    let means = g.U.Update.means in
    let room = c.args.room in
    let more = c.apply_next-more.result in
    let mid = c.loop-key.done.items ++ c.loop-key.left.items in
    let new = c.apply_next-more.new.done.items ++ c.apply_next-more.new.left.items in
    let did = c.apply_next-more.ensures in
    let next = subst (λ ms. IsFilled means room ms more mid new) c.loop-key.invariant.rest did.filled in
    record {
      filled = filled_then means room (point_msgs c.args.walk) c.loop-key.count more c.args.left.now.items mid new c.loop-key.invariant.filled next;
      rest = rest_next c.loop-key.walk c.pass.new.self (point_msgs c.args.walk) c.loop-key.count more c.pass.ensures c.loop-key.invariant.rest (omega (arith, c.in-Some.ensures.len.0, did.within, c.min.ensures, c.if-more-len.false));
      rising = rising_applied means (take more (point_msgs c.loop-key.walk)) mid new did.filled.applied c.loop-key.invariant.rising;
      ahead = subst (λ w. Rises [] (first_key None w) c.apply_next-more.new.done.items) (sym c.pass.ensures) did.ahead;
      fits = did.fits;
      capacity = did.capacity;
      small = omega (arith, c.if-count-few.false, did.within, c.min.ensures);
    }
