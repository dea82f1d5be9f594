use Rattle.std.proofs.Common.{◌+◌, sym, subst, [], drop, arith}
use Rattle.message.specs.Effects.{Takes}
use Rattle.message.proofs.Composing.{takes-none, takes-on}
use Rattle.node.specs.See.{seen_slots}
use Rattle.split_merge.specs.Raised.{all_msgs}
use Rattle.split_merge.proofs.Gathering.{gathered_next, gathered_end}
use Rattle.split_merge.proofs.raise_root.collected_msgs.Goals as goal

pub loop-slot-preserved : goal.loop-slot-preserved
loop-slot-preserved g c =
    let means = g.U.Update.means in
    let xs = c.args.slots.now in
    let i = c.loop-slot.slot-index in
    let rest = all_msgs (seen_slots (drop (i + 1) xs)) in
    let next = gathered_next xs i c.slot-item.result c.loop-slot-test.true c.slot-item.is in
    let took = subst (λ ms. Takes means c.loop-slot.all.0 ms c.in_ok-all.all.0) c.in_ok-own.ensures c.in_ok-all.ensures in
    takes-on means c.slot-item.result.pending.0 rest c.loop-slot.all.0 c.in_ok-all.all.0 [] (all_msgs (seen_slots xs)) took (λ d t. c.loop-slot.invariant d (subst (λ ms. Takes means c.loop-slot.all.0 ms d) (sym next) t))

pub returns : goal.returns
returns g c =
    let means = g.U.Update.means in
    let all = c.loop-slot.all.0 in
    let end = gathered_end c.args.slots.now c.loop-slot.slot-index (omega arith) in
    c.loop-slot.invariant all (subst (λ ms. Takes means all ms all) (sym end) (takes-none means all))
