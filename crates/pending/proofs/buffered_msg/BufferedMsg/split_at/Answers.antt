use Rattle.std.proofs.Common.{refl, true, false, [], Some, None, ap, sym}
use Rattle.pending.specs.MsgRef.{borrowed_msg}
use Rattle.message.proofs.Sides.{asked, only_before, only_behind, none_is}
use Rattle.pending.proofs.buffered_msg.BufferedMsg.split_at.Goals as goal

pub returns-in-true-false-clause-before : goal.returns-in-true-false-clause-before
returns-in-true-false-clause-before g c =
    let p = c.args.pivot.now.value in
    let m = borrowed_msg c.as_msg-msg.result in
    let front = asked true c.new.result [] (Some c.deref.result.now) (Some p) m c.args.self c.in-true-false.ensures c.new.ensures (ap (λ k. Some k) c.deref.ensures) c.as_msg-msg.ensures in
    let back = asked false c.deref-2.result.now p None None m c.args.self c.in-true-false.ensures' c.deref-2.ensures refl c.as_msg-msg.ensures in
    sym (only_before p c.args.self front back)

pub returns-in-false-true-clause-behind : goal.returns-in-false-true-clause-behind
returns-in-false-true-clause-behind g c =
    let p = c.args.pivot.now.value in
    let m = borrowed_msg c.as_msg-msg.result in
    let front = asked false c.new.result [] (Some c.deref.result.now) (Some p) m c.args.self c.in-false-true.ensures c.new.ensures (ap (λ k. Some k) c.deref.ensures) c.as_msg-msg.ensures in
    let back = asked true c.deref-2.result.now p None None m c.args.self c.in-false-true.ensures' c.deref-2.ensures refl c.as_msg-msg.ensures in
    sym (only_behind p c.args.self front back)

pub returns-in-false-false-clause-before : goal.returns-in-false-false-clause-before
returns-in-false-false-clause-before g c =
    let p = c.args.pivot.now.value in
    let m = borrowed_msg c.as_msg-msg.result in
    let front = asked false c.new.result [] (Some c.deref.result.now) (Some p) m c.args.self c.in-false-false.ensures c.new.ensures (ap (λ k. Some k) c.deref.ensures) c.as_msg-msg.ensures in
    sym (none_is _ front)

pub returns-in-false-false-clause-behind : goal.returns-in-false-false-clause-behind
returns-in-false-false-clause-behind g c =
    let p = c.args.pivot.now.value in
    let m = borrowed_msg c.as_msg-msg.result in
    let back = asked false c.deref-2.result.now p None None m c.args.self c.in-false-false.ensures' c.deref-2.ensures refl c.as_msg-msg.ensures in
    sym (none_is _ back)
