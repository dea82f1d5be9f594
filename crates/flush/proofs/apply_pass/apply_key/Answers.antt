use Rattle.std.proofs.Common.{◌<◌, [], ◌∷◌, arith, sym}
use Rattle.std.proofs.lemmas.Option.{get_or_from_slice_get, slice_get_within}
use Rattle.point_ops.specs.PointOps.{point_msgs}
use Rattle.pending.specs.MsgRef.{borrowed_msg}
use Rattle.pending.specs.OldestWalk.{first_len}
use Rattle.node.proofs.Applying.{rising_applied}
use Rattle.flush.proofs.Keyed.{first_point, first_pointed}
use Rattle.flush.proofs.Merging.{filled_more}
use Rattle.flush.proofs.apply_pass.apply_key.Goals as goal

pub apply_at-requires-clause-place : goal.apply_at-requires-clause-place
apply_at-requires-clause-place g c = λ k e.
    let few : c.loop-count.count < first_len c.args.walk.now = omega (arith, c.loop-count-test.true, c.requires.few) in
    c.loop-count.invariant.place k (first_pointed k c.args.walk.now c.loop-count.count (borrowed_msg c.msg-msg.result) few c.msg-msg.ensures e)

pub loop-count-preserved : goal.loop-count-preserved
loop-count-preserved g c =
    let means = g.U.Update.means in
    let ms = point_msgs c.args.walk.now in
    let m = borrowed_msg c.msg-msg.result in
    let i = c.loop-count.count in
    let mid = c.loop-count.entries.items in
    let new = c.apply_at.new.entries.items in
    let did = c.in-Some.ensures.some in
    let few : c.loop-count.count < first_len c.args.walk.now = omega (arith, c.loop-count-test.true, c.requires.few) in
    record {
      within = omega (arith, c.loop-count-test.true);
      filled = filled_more means c.args.most ms i m c.args.entries.now.items mid new (slice_get_within ms i m c.msg-msg.ensures) (sym (get_or_from_slice_get ms i m m c.msg-msg.ensures)) c.loop-count.invariant.filled did.applied c.apply_at.ensures.few;
      rising = rising_applied means (m ∷ []) mid new did.applied c.loop-count.invariant.rising;
      place = λ k f. did.place k (first_point k c.args.walk.now i m f few c.msg-msg.ensures);
      capacity = omega (arith, c.loop-count.invariant.capacity, c.apply_at.ensures.capacity);
    }
