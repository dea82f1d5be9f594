use Rattle.split_merge.proofs.RootDown.{rest-next, rest-none}
use Rattle.split_merge.proofs.lower_root.slots_over.Goals as goal

pub slots-preserved : goal.slots-preserved
slots-preserved g c = rest-next g.U.Update.means _ c.args.list.now.0 c.in-Some.slot.now c.in_ok-new.new c.slots.rest.now c.in-Some.later.now c.slots.all.items c.push.new.self.items c.args.slots.now c.in-Some.ensures.cases.0 c.in_ok-push.ensures.items c.next_pivot.ensures c.in_ok-new.ensures c.slots.invariant

pub returns : goal.returns
returns g c = rest-none g.U.Update.means c.args.list.now.0 c.slots.rest.now c.slots.all.items c.args.slots.now c.in_default.ensures.cases c.slots.invariant
