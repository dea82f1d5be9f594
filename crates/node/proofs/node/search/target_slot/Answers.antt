use Rattle.std.proofs.Common.{rules, sym, ◌∙◌, subst, None}
use Rattle.pathkey.specs.Keys.{is_below}
use Rattle.message.specs.Ranges.{ends_within}
use Rattle.message.proofs.KeyOrder.{both}
use Rattle.node.specs.Homes.{IsHome}
use Rattle.node.specs.See.{seen_slots}
use Rattle.node.specs.Site.{end_of}
use Rattle.node.proofs.RangeHomes.{range_home}
use Rattle.node.proofs.Wholes.{at_slot}
use Rattle.node.proofs.node.search.target_slot.Goals as goal

pub returns-then-ends_in-clause-home : goal.returns-then-ends_in-clause-home
returns-then-ends_in-clause-home g c =
    let r = c.in-DelRange.range in
    let xs = c.args.slots.now in
    let i = c.slot_of-i.result in
    let lies = both (is_below r.lo r.hi) (ends_within r.hi (end_of None (seen_slots xs) i)) (sym c.ends_in.ensures ∙ c.if-ends_in.true) in
    subst (λ m. IsHome i m (seen_slots xs)) (sym c.in-DelRange.is) (range_home r xs i c.requires c.slot_of-i.ensures.number lies.0 lies.1)

pub returns-in-Put-clause-home : goal.returns-in-Put-clause-home
returns-in-Put-clause-home g c = at_slot c.args.msg.now c.in-Put.key c.args.slots.now c.slot_of.result (search rules) c.requires c.slot_of.ensures.number
