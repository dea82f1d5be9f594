use Rattle.std.proofs.Common.{◌≡◌, ◌∷◌, [], get_or, sym, ◌∙◌, ap, arith}
use Rattle.node.proofs.Applying.{rising_applied}
use Rattle.flush.proofs.Merging.{filled_more}
use Rattle.flush.proofs.leaf.apply_each.Goals as goal

pub loop-msg-preserved : goal.loop-msg-preserved
loop-msg-preserved g c =
    let means = g.U.Update.means in
    let m = c.msg-item.result in
    let i = c.loop-msg.count in
    let done = c.if-not-apply_within.false in
    let at : m ≡ get_or c.args.msgs.now i m = c.msg-item.is ∙ ap (λ j. get_or c.args.msgs.now j m) (sym c.loop-msg.invariant.counted) in
    record {
      counted = omega (arith, c.loop-msg.invariant.counted);
      filled = filled_more means c.args.most c.args.msgs.now i m c.args.entries.now.items c.loop-msg.entries.items c.apply_within.new.entries.items (omega (arith, c.loop-msg.invariant.counted)) at c.loop-msg.invariant.filled (c.apply_within.ensures.applied done) (c.apply_within.ensures.few done);
      rising = rising_applied means (m ∷ []) c.loop-msg.entries.items c.apply_within.new.entries.items (c.apply_within.ensures.applied done) c.loop-msg.invariant.rising;
    }
