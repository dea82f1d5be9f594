use Rattle.std.proofs.Common.{◌≡◌, Some, subst}
use Rattle.std.specs.Option.{option_copied}
use Rattle.message.specs.Cuts.{cut_to}
use Rattle.message.proofs.Lists.{lies_turn}
use Rattle.pending.proofs.list.lie_in.Goals as goal

pub loop-waiting-preserved : goal.loop-waiting-preserved
loop-waiting-preserved g c =
    let lo = c.args.lo.now in
    let hi = option_copied c.args.hi in
    let lies = subst (λ m. cut_to lo hi m ≡ Some m) c.as_msg.ensures (c.lies_in.ensures c.if-not-lies_in.false) in
    lies_turn lo hi c.args.msgs.now c.loop-waiting.waiting-index c.waiting-item.result c.loop-waiting-test.true c.waiting-item.is c.loop-waiting.invariant lies
